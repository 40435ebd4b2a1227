use Rattle.std.proofs.Common.{◌≡◌, ◌≤◌, ◌+◌, ◌-◌, ◌^◌, min, max, drop}
use Rattle.base_types.specs.Meaning.{kids_of, fields_of}
use Rattle.json_patch.specs.Joined.{joined}
use Rattle.json_patch.specs.Limits.{kids_values, kids_depth, fields_values, fields_depth}
use Rattle.json_patch.proofs.size.+size_of.Given as goal

abbrev pub invariant-size_of_items-loop-part : goal.invariant-size_of_items-loop-part
invariant-size_of_items-loop-part l = record {
  values_fit : l.values ≤ 2 ^ 64 - 1;
  depth_fits : l.depth ≤ 2 ^ 64 - 1;
  values : min (kids_values (kids_of (joined l.part-items))) (2 ^ 64 - 1) ≡ min (l.values + kids_values (kids_of (joined (drop l.part-index l.part-items)))) (2 ^ 64 - 1);
  depth : min (kids_depth (kids_of (joined l.part-items))) (2 ^ 64 - 1) ≡ min (max l.depth (kids_depth (kids_of (joined (drop l.part-index l.part-items))))) (2 ^ 64 - 1);
}

abbrev pub invariant-size_of_part-loop-item : goal.invariant-size_of_part-loop-item
invariant-size_of_part-loop-item l = record {
  values_fit : l.values ≤ 2 ^ 64 - 1;
  depth_fits : l.depth ≤ 2 ^ 64 - 1;
  values : min (kids_values (kids_of l.item-items)) (2 ^ 64 - 1) ≡ min (l.values + kids_values (kids_of (drop l.item-index l.item-items))) (2 ^ 64 - 1);
  depth : min (kids_depth (kids_of l.item-items)) (2 ^ 64 - 1) ≡ min (max l.depth (kids_depth (kids_of (drop l.item-index l.item-items)))) (2 ^ 64 - 1);
}

abbrev pub invariant-size_of_members-loop-part : goal.invariant-size_of_members-loop-part
invariant-size_of_members-loop-part l = record {
  values_fit : l.values ≤ 2 ^ 64 - 1;
  depth_fits : l.depth ≤ 2 ^ 64 - 1;
  values : min (fields_values (fields_of (joined l.part-items))) (2 ^ 64 - 1) ≡ min (l.values + fields_values (fields_of (joined (drop l.part-index l.part-items)))) (2 ^ 64 - 1);
  depth : min (fields_depth (fields_of (joined l.part-items))) (2 ^ 64 - 1) ≡ min (max l.depth (fields_depth (fields_of (joined (drop l.part-index l.part-items))))) (2 ^ 64 - 1);
}

abbrev pub invariant-size_of_member_part-loop-member : goal.invariant-size_of_member_part-loop-member
invariant-size_of_member_part-loop-member l = record {
  values_fit : l.values ≤ 2 ^ 64 - 1;
  depth_fits : l.depth ≤ 2 ^ 64 - 1;
  values : min (fields_values (fields_of l.member-items)) (2 ^ 64 - 1) ≡ min (l.values + fields_values (fields_of (drop l.member-index l.member-items))) (2 ^ 64 - 1);
  depth : min (fields_depth (fields_of l.member-items)) (2 ^ 64 - 1) ≡ min (max l.depth (fields_depth (fields_of (drop l.member-index l.member-items)))) (2 ^ 64 - 1);
}
