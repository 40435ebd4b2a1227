use Rattle.std.proofs.Common.{◌≡◌, ◌++◌, drop}
use Rattle.merge_patch.proofs.merging.copy_rest.Given as goal

abbrev pub invariant-loop-next : goal.invariant-loop-next
invariant-loop-next l = l.all.items ++ drop l.next l.old ≡ l.initial.all.items ++ drop l.at l.old
