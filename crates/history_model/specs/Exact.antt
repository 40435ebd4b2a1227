-- A claim that says exactly what its event asks of the choice.
use Rattle.std.specs.Prelude.{◌≡◌, ◌≤◌, ℕ, ◌⊎◌, ◌↔◌, List, [], Option, Some, None, length, slice_get}
use Rattle.base_types.specs.Choices.{IsChoice, MeetsAll}
use Rattle.base_types.specs.Reasons.{code_number}
use Rattle.base_types.specs.declared.verdict.claim.Bound.{Bound}
use Rattle.base_types.specs.declared.verdict.claim.Claim.{Claim}
use Rattle.base_types.specs.declared.verdict.claim.Reason.{Reason}
use Rattle.history_model.specs.Codes.{HasCode, NeverHolds}
use Rattle.history_model.specs.Events.{Event}
use Rattle.history_model.specs.Histories.{History, IsEvent, ranges}
use Rattle.history_model.specs.Local.{IsFixedRight, AnswerHolds}
use Rattle.history_model.specs.Right.{answer_code}

-- some choice makes the answer right
abbrev pub SometimesHolds : History → ℕ → Event → Type 0
SometimesHolds h number event = (choice : List ℕ) × IsChoice (ranges h) choice × AnswerHolds h choice number event

-- the least code that the event has under every choice, or none where it is right under some
abbrev pub IsFailure : History → ℕ → Event → Option Reason → Type 0
IsFailure h number event None = IsFixedRight h number event × SometimesHolds h number event
IsFailure h number event (Some code) = HasCode h number event code × ((other : Reason) → HasCode h number event other → code_number code ≤ code_number other)

-- the choices that make the answer right are those that meet the bounds; no bound is given where none does
abbrev pub AreExactBounds : History → ℕ → Event → List Bound → Type 0
AreExactBounds h number event bounds = (SometimesHolds h number event × ((choice : List ℕ) → IsChoice (ranges h) choice → AnswerHolds h choice number event ↔ MeetsAll choice bounds))
    ⊎ (NeverHolds h number event × (bounds ≡ []))

pub record IsExactClaim (h : History) (number : ℕ) (event : Event) (claim : Claim) : Type 0 where
  pub failure : IsFailure h number event claim.fails
  pub exact : AreExactBounds h number event claim.bounds
  pub of_answer : claim.reason ≡ answer_code event.answer

-- the claims of all events
pub record AreExact (h : History) (claims : List Claim) : Type 0 where
  pub all : length claims ≡ length h.events
  pub each : (number : ℕ) (event : Event) (claim : Claim) → IsEvent h number event → slice_get claims number ≡ Some claim → IsExactClaim h number event claim
