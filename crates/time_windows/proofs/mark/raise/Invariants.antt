use Rattle.time_windows.proofs.Running.{IsRaised}
use Rattle.time_windows.proofs.mark.raise.Given as goal

-- the marks before this one have the greatest revision so far
abbrev pub invariant-loop-i : goal.invariant-loop-i
invariant-loop-i l = IsRaised l.initial.marks l.marks l.i
