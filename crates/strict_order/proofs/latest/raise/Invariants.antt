use Rattle.strict_order.proofs.Raising.{IsRaised}
use Rattle.strict_order.proofs.latest.raise.Given as goal

-- the marks before this one have the latest moment so far
abbrev pub invariant-loop-i : goal.invariant-loop-i
invariant-loop-i l = IsRaised l.initial.marks l.marks l.i
