use Rattle.std.proofs.Common.{◌≡◌, Bool, length}
use Rattle.path_shape.specs.Passing.{entries_past}
use Rattle.path_shape.proofs.live.from_first_past.Given as goal

abbrev pub invariant-loop-rest : goal.invariant-loop-rest
invariant-loop-rest l = (nothing : Bool) → entries_past l.way nothing l.rest ≡ entries_past l.way nothing l.entries

abbrev pub decreases-loop-rest : goal.decreases-loop-rest
decreases-loop-rest l = length l.rest
