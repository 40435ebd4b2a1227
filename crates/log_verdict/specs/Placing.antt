-- What is found of an event for a placement.
use Rattle.std.specs.Prelude.{ℕ, List, Option}
use Rattle.base_types.specs.Choices.{IsChoice}
use Rattle.base_types.specs.declared.verdict.placed.PlacedLine.{PlacedLine}
use Rattle.event_claims.specs.Lines.{IsLined}
use Rattle.history_model.specs.Events.{Event}
use Rattle.history_model.specs.Histories.{IsEvent, ranges}
use Rattle.log_context.specs.Histories.{history_of}
use Rattle.log_context.specs.Known.{Known}

-- the line of the event of this number, if it is right under the choice
abbrev pub IsLineFound : Known → List ℕ → ℕ → Option PlacedLine → Type 0
IsLineFound known choice number found =
    (event : Event) → IsEvent (history_of known) number event → IsChoice (ranges (history_of known)) choice → IsLined (history_of known) choice number event found
