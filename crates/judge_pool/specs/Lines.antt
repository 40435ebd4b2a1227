-- The lines of all events.
use Rattle.std.specs.Prelude.{◌≡◌, ℕ, List, Option, Some, length, slice_get}
use Rattle.base_types.specs.declared.verdict.placed.PlacedLine.{PlacedLine}

-- what is found of each event, in order
pub record AreLines (events : ℕ) (IsLine : ℕ → Option PlacedLine → Type 0) (lines : List (Option PlacedLine)) : Type 0 where
  pub all : length lines ≡ events
  pub each : (event : ℕ) (line : Option PlacedLine) → slice_get lines event ≡ Some line → IsLine event line
