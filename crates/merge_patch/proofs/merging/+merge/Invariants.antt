use Rattle.std.proofs.Common.{◌≡◌, ◌+◌, ◌++◌, drop, take}
use Rattle.std.specs.List.{AllByRecursion}
use Rattle.base_types.specs.Meaning.{fields_of}
use Rattle.base_types.specs.Size.{nodes, fields_nodes}
use Rattle.merge_patch.specs.Merging.{merged_fields}
use Rattle.merge_patch.specs.Walking.{AllBelow, HasWalkedTo}
use Rattle.merge_patch.proofs.merging.+merge.Given as goal

abbrev pub decreases-merge : goal.decreases-merge
decreases-merge l = nodes l.patch.now

abbrev pub decreases-merge_members : goal.decreases-merge_members
decreases-merge_members l = fields_nodes (fields_of l.changes.now)

abbrev pub decreases-merge_member : goal.decreases-merge_member
decreases-merge_member l = nodes l.change.now.1 + 1

abbrev pub invariant-merge_members-loop-change : goal.invariant-merge_members-loop-change
invariant-merge_members-loop-change l = record {
  walked : HasWalkedTo l.at l.all.items l.old;
  merged : fields_of (l.all.items ++ drop l.at l.old) ≡ merged_fields (fields_of l.old) (fields_of (take l.change-index l.change-items));
  below : AllByRecursion (λ change. AllBelow change.0 l.all.items) (drop l.change-index l.change-items);
}
