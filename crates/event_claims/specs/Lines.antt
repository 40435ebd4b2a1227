-- The line of an event in a placement, where the event is right under the choice.
use Rattle.std.specs.Prelude.{◌≡◌, ℕ, List, Option, Some, None}
use Rattle.base_types.specs.declared.verdict.placed.PlacedAnswer.{PlacedAnswer}
use Rattle.base_types.specs.declared.verdict.placed.PlacedLine.{PlacedLine}
use Rattle.event_claims.specs.Standing.{IsDecidable}
use Rattle.history_model.specs.Events.{Event}
use Rattle.history_model.specs.Histories.{History}
use Rattle.history_model.specs.Local.{AnswerHolds, IsRightUnder}
use Rattle.history_model.specs.Placed.{IsPlacedAnswer, IsPlacedDecision, IsPlacedLine}
use Rattle.history_model.specs.Words.{word}

-- where the answer stands, if it is right at some place
abbrev pub IsAnswered : History → List ℕ → ℕ → Event → Option PlacedAnswer → Type 0
IsAnswered h choice number event None = AnswerHolds h choice number event → ⊥
IsAnswered h choice number event (Some answer) = AnswerHolds h choice number event × IsPlacedAnswer h choice number event (word h number event) answer

-- the line with this answer, if the decision could be given
abbrev pub IsLineWith : History → ℕ → Event → ℕ → PlacedAnswer → Option PlacedLine → Type 0
IsLineWith h number event line answer None = IsDecidable h number event → ⊥
IsLineWith h number event line answer (Some placed) = (placed.line ≡ line) × (placed.answer ≡ answer) × IsDecidable h number event × IsPlacedDecision h number event event.decision placed.decision

-- the event's line, if it is right under the choice
abbrev pub IsLined : History → List ℕ → ℕ → Event → Option PlacedLine → Type 0
IsLined h choice number event None = IsRightUnder h choice number event → ⊥
IsLined h choice number event (Some placed) = IsRightUnder h choice number event × IsPlacedLine h choice number event placed
