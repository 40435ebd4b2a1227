use Rattle.std.proofs.Common.{◌≡◌, ◌++◌}
use Rattle.context_intake.proofs.chained.put_behind.Given as goal

abbrev pub invariant-loop-checkpoint : goal.invariant-loop-checkpoint
invariant-loop-checkpoint l = l.all ≡ l.initial.all ++ l.yielded
