-- The faults of a text that isn't a placement.
use Rattle.std.specs.Prelude.{ℕ, List}
use Rattle.verdict_text.specs.declared.reading.PlacementFault.{PlacementFault}
use Rattle.verdict_text.specs.declared.reading.PlacementFault.TheVariants.{Line, OutOfMemory}
use Rattle.verdict_text.specs.Reading.{IsFaultLine}

-- the line is the one at which the text breaks; want of memory has no cause
abbrev pub IsCause : List ℕ → PlacementFault → Type 0
IsCause text (Line number) = IsFaultLine text number
IsCause text OutOfMemory = Unit {0}
