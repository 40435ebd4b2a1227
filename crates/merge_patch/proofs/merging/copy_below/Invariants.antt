use Rattle.std.proofs.Common.{◌≡◌, ◌≤◌, ◌-◌, ◌++◌, length, drop}
use Rattle.merge_patch.specs.Walking.{AllBelow}
use Rattle.merge_patch.proofs.merging.copy_below.Given as goal

abbrev pub invariant-loop-next : goal.invariant-loop-next
invariant-loop-next l = record {
  within : l.next ≤ length l.old;
  kept : l.all.items ++ drop l.next l.old ≡ l.initial.all.items ++ drop l.at l.old;
  below : AllBelow l.name l.initial.all.items → AllBelow l.name l.all.items;
}

abbrev pub decreases-loop-next : goal.decreases-loop-next
decreases-loop-next l = length l.old - l.next
