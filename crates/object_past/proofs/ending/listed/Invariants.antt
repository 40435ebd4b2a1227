use Rattle.std.proofs.Common.{◌≡◌, ◌++◌, drop}
use Rattle.object_past.specs.Endings.{endings_from}
use Rattle.object_past.proofs.ending.listed.Given as goal

abbrev pub invariant-loop-i : goal.invariant-loop-i
invariant-loop-i l = l.endings.items ++ endings_from l.i (drop l.i l.removals) ≡ endings_from 0 l.removals
