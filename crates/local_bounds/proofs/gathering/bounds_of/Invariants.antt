use Rattle.std.proofs.Common.{◌≡◌, take}
use Rattle.local_bounds.specs.Demands.{bounds_in, IsPossible}
use Rattle.local_bounds.proofs.gathering.bounds_of.Given as goal

abbrev pub invariant-loop-asking : goal.invariant-loop-asking
invariant-loop-asking l = IsPossible (take l.asking-index l.askings) × (l.bounds.items ≡ bounds_in (take l.asking-index l.askings))
