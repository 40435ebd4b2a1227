use Rattle.std.proofs.Common.{◌≡◌, drop}
use Rattle.path_shape.specs.Passing.{any_past}
use Rattle.path_shape.proofs.live.any_past.Given as goal

abbrev pub invariant-loop-entry : goal.invariant-loop-entry
invariant-loop-entry l = any_past l.way l.entries ≡ any_past l.way (drop l.entry-index l.entries)
