use Rattle.std.proofs.Common.{take}
use Rattle.log_context.specs.Makings.{AreMakingsOf}
use Rattle.log_context.proofs.faults.makings_of.Given as goal

abbrev pub invariant-loop-one : goal.invariant-loop-one
invariant-loop-one l = AreMakingsOf (take l.one-index l.judged) l.makings
