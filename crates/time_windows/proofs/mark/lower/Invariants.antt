use Rattle.std.proofs.Common.{◌-◌}
use Rattle.time_windows.proofs.Running.{IsLowered}
use Rattle.time_windows.proofs.mark.lower.Given as goal

-- the marks from the one before this place on have the least revision from there on
abbrev pub invariant-loop-i : goal.invariant-loop-i
invariant-loop-i l = IsLowered l.initial.marks l.marks (l.i - 1)
