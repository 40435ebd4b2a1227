-- How the line of a placement with the number of an event differs from the event's.
use Rattle.std.specs.Prelude.{◌≡◌, ◌≢◌, ℕ, List, Some, None, min, slice_get}
use Rattle.base_types.specs.declared.verdict.placed.PlacedLine.{PlacedLine}
use Rattle.history_model.specs.Checking.{HasWords}
use Rattle.history_model.specs.Events.{Event}
use Rattle.history_model.specs.Histories.{History}

-- the line of this number is that of the event, with its words
pub record IsAlike (h : History) (lines : List PlacedLine) (number : ℕ) (event : Event) : Type 0 where
  pub line : PlacedLine
  pub here : slice_get lines number ≡ Some line
  pub same : line.line ≡ event.line
  pub words : HasWords h number event line

-- there is no such line, or it is that of another event, or it has other words; at the least line that shows it
pub data IsUnlike (h : History) (lines : List PlacedLine) (number : ℕ) (event : Event) (at : ℕ) : Type 0 where
  short : slice_get lines number ≡ None → at ≡ event.line → IsUnlike h lines number event at
  elsewhere : (line : PlacedLine) → slice_get lines number ≡ Some line → line.line ≢ event.line → at ≡ min event.line line.line → IsUnlike h lines number event at
  worded : (line : PlacedLine) → slice_get lines number ≡ Some line → line.line ≡ event.line → (HasWords h number event line → ⊥) → at ≡ event.line → IsUnlike h lines number event at
