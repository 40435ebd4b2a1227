-- The lines of a placement, in the order of the log.
use Rattle.std.specs.Prelude.{List, ◌<◌, AllPairs}
use Rattle.base_types.specs.declared.verdict.placed.PlacedLine.{PlacedLine}

-- the lines of a placement come in the order of the log, each once
abbrev pub RisesByLine : List PlacedLine → Type 0
RisesByLine lines = AllPairs (λ a b. a.line < b.line) lines
