use Rattle.std.proofs.Common.{◌≡◌, ◌≤◌, Bool, length, take}
use Rattle.path_shape.specs.Passing.{entries_past}
use Rattle.path_shape.proofs.live.up_to_last_past.Given as goal

abbrev pub invariant-last : goal.invariant-last
invariant-last l = record { within : l.end ≤ length l.entries; same : (nothing : Bool) → entries_past l.way nothing (take l.end l.entries) ≡ entries_past l.way nothing l.entries }

abbrev pub decreases-last : goal.decreases-last
decreases-last l = l.end
