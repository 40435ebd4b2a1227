-- The codes of an event that isn't explained.
use Rattle.std.specs.Prelude.{◌≡◌, ◌≤◌, ℕ, ◌⊎◌, Bool, true, List, Option, Some}
use Rattle.base_types.specs.Choices.{IsChoice}
use Rattle.base_types.specs.Reasons.{code_number}
use Rattle.base_types.specs.declared.verdict.claim.Reason.{Reason}
use Rattle.base_types.specs.declared.verdict.claim.Reason.TheVariants.{U1, U2, U3, U7, U14}
use Rattle.base_types.specs.declared.verdict.placed.Places.{Places}
use Rattle.base_types.specs.declared.kubernetes.request.Decision.{Decision}
use Rattle.history_model.specs.Clouds.{IsCloudedWithin}
use Rattle.history_model.specs.Decisions.{IsDecidedAt}
use Rattle.history_model.specs.Events.{Item, Event, Made}
use Rattle.history_model.specs.Groups.{Making}
use Rattle.history_model.specs.Histories.{History, Version, Removal, ranges}
use Rattle.history_model.specs.Local.{AnswerHolds}
use Rattle.history_model.specs.Machine.{MeetsPreconditions}
use Rattle.history_model.specs.Making.{HasFault, HasFoundFault, IsEntryBefore}
use Rattle.history_model.specs.Right.{answer_code}
use Rattle.history_model.specs.Runs.{Placement, IsRunUpTo}
use Rattle.history_model.specs.Windows.{low_end, high_end}
use Rattle.history_model.specs.Words.{Makes, Removes, At, Strays, word}

-- no choice makes the answer right
abbrev pub NeverHolds : History → ℕ → Event → Type 0
NeverHolds h number event = (choice : List ℕ) → IsChoice (ranges h) choice → AnswerHolds h choice number event → ⊥

-- a code that the event has under every choice
pub data HasCode (h : History) (number : ℕ) (event : Event) (code : Reason) : Type 0 where
  level : code ≡ U1 → event.other_level ≡ true → HasCode h number event code
  stage : code ≡ U2 → event.omitted_stage ≡ true → HasCode h number event code
  stray : code ≡ U3 → word h number event ≡ Strays → HasCode h number event code
  making : (m : Making) → (before : Option Version) → word h number event ≡ Makes m → IsEntryBefore h m before → HasFault h m before code → HasCode h number event code
  removal : (removed : Removal) → code ≡ U7 → word h number event ≡ Removes removed → (MeetsPreconditions h event removed removed.last → ⊥) → HasCode h number event code
  -- a write that found its revision, but couldn't have; a cloud in the window hides that
  found : (item : Item) → (created : Bool) → word h number event ≡ At → event.answer ≡ Made item created
      → (IsCloudedWithin h item.key (low_end h event) (high_end h event) → ⊥)
      → HasFoundFault h (record { number = number; event = event; item = item; created = created }) code → HasCode h number event code
  answer : code ≡ answer_code event.answer → word h number event ≡ At → NeverHolds h number event → HasCode h number event code
  decision : (decided : Decision) → code ≡ U14 → event.decision ≡ Some decided → ((places : Places) → IsDecidedAt h number event places → ⊥) → HasCode h number event code

-- the choice is that of some run up to n
abbrev pub IsChoiceUpTo : History → ℕ → List ℕ → Type 0
IsChoiceUpTo h n choice = (p : Placement) × IsRunUpTo h n p × (p.choice ≡ choice)

-- A candidate for the code of an event behind n that are explained: one that it has under every choice, or
-- that of its answer, where no choice that explains the n makes the answer right.
abbrev pub IsCandidate : History → ℕ → ℕ → Event → Reason → Type 0
IsCandidate h n number event code = HasCode h number event code
    ⊎ ((code ≡ answer_code event.answer) × ((choice : List ℕ) → IsChoiceUpTo h n choice → AnswerHolds h choice number event → ⊥))

pub record IsLeastCandidate (h : History) (n : ℕ) (number : ℕ) (event : Event) (code : Reason) : Type 0 where
  pub candidate : IsCandidate h n number event code
  pub least : (other : Reason) → IsCandidate h n number event other → code_number code ≤ code_number other
