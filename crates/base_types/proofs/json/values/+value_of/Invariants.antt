use Rattle.std.proofs.Common.{◌≡◌, take}
use Rattle.serde_json.specs.View.{items_view, members_view}
use Rattle.base_types.specs.Meaning.{kids_of, fields_of}
use Rattle.base_types.specs.Values.{data_items, data_members}
use Rattle.base_types.proofs.json.values.+value_of.Given as goal

abbrev pub invariant-to_items-loop-item : goal.invariant-to_items-loop-item
invariant-to_items-loop-item l = items_view l.all.items ≡ data_items (kids_of (take l.item-index l.item-items))

abbrev pub invariant-to_members-loop-member : goal.invariant-to_members-loop-member
invariant-to_members-loop-member l = members_view l.map.entries ≡ data_members (fields_of (take l.member-index l.member-items))
