use Rattle.std.proofs.Common.{◌≡◌, drop}
use Rattle.path_shape.specs.Passing.{entry_class}
use Rattle.path_shape.proofs.live.entry_class.Given as goal

abbrev pub invariant-loop-entry : goal.invariant-loop-entry
invariant-loop-entry l = entry_class l.way l.name l.unasked l.entries ≡ entry_class l.way l.name l.unasked (drop l.entry-index l.entries)
