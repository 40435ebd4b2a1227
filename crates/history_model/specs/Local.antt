-- What is right by itself, event by event, under a choice of the removals' places.
use Rattle.std.specs.Prelude.{◌≡◌, ◌-◌, ℕ, false, List, Option, Some, Contains}
use Rattle.base_types.specs.declared.verdict.placed.Places.{Places}
use Rattle.base_types.specs.declared.kubernetes.request.Decision.{Decision}
use Rattle.history_model.specs.Decisions.{IsDecidedAt}
use Rattle.history_model.specs.Events.{Event}
use Rattle.history_model.specs.Groups.{Making}
use Rattle.history_model.specs.Histories.{History, Version, IsEvent}
use Rattle.history_model.specs.Judging.{IsJudged}
use Rattle.history_model.specs.Machine.{MayRemove, MeetsPreconditions}
use Rattle.history_model.specs.Making.{HasNoFault, IsEntryBefore}
use Rattle.history_model.specs.Right.{IsRight}
use Rattle.history_model.specs.Runs.{Placement}
use Rattle.history_model.specs.States.{Cut, cuts, state}
use Rattle.history_model.specs.Windows.{InWindow}
use Rattle.history_model.specs.Words.{Word, Makes, Removes, At, Strays, Nothing, word}

-- each making, each removal and each placed answer of the first n events is right on the state at its place
pub record IsLocallyRight (h : History) (n : ℕ) (p : Placement) : Type 0 where
  pub makings : (number : ℕ) (event : Event) (m : Making) → IsJudged h n number → IsEvent h number event → word h number event ≡ Makes m
      → HasNoFault h m (state h p.choice (m.item.revision - 1) m.item.key)
  pub removals : (number : ℕ) (event : Event) (cut : Cut) → IsJudged h n number → IsEvent h number event → word h number event ≡ Removes cut.removal
      → Contains (cuts h.removals p.choice) cut → MayRemove h event cut.removal (state h p.choice (cut.place - 1) cut.removal.key)
  pub answers : (number : ℕ) (event : Event) → IsJudged h n number → IsEvent h number event → word h number event ≡ At
      → IsRight h number event (p.at_place number) (state h p.choice (p.at_place number))

-- what of an event's word is right or wrong whatever is chosen
abbrev pub IsFixedBy : History → Event → Word → Type 0
IsFixedBy h event (Makes m) = (before : Option Version) → IsEntryBefore h m before → HasNoFault h m before
IsFixedBy h event (Removes removal) = MeetsPreconditions h event removal removal.last
IsFixedBy h event At = Unit {0}
IsFixedBy h event Strays = ⊥
IsFixedBy h event Nothing = Unit {0}

-- what of an event is right whatever is chosen
pub record IsFixedRight (h : History) (number : ℕ) (event : Event) : Type 0 where
  pub level : event.other_level ≡ false
  pub stage : event.omitted_stage ≡ false
  pub by_word : IsFixedBy h event (word h number event)
  pub decision : (decided : Decision) → event.decision ≡ Some decided → (places : Places) × IsDecidedAt h number event places

-- the answer is right at some place of its window
abbrev pub AnswerHolds : History → List ℕ → ℕ → Event → Type 0
AnswerHolds h choice number event = word h number event ≡ At → (place : ℕ) × InWindow h event place × IsRight h number event place (state h choice place)

pub record IsRightUnder (h : History) (choice : List ℕ) (number : ℕ) (event : Event) : Type 0 where
  pub fixed : IsFixedRight h number event
  pub answer : AnswerHolds h choice number event

abbrev pub AreRightUpTo : History → ℕ → List ℕ → Type 0
AreRightUpTo h n choice = (number : ℕ) (event : Event) → IsJudged h n number → IsEvent h number event → IsRightUnder h choice number event
