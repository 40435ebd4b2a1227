-- Placements of a log's events, and when the serial API machine runs through one.
use Rattle.std.specs.Prelude.{◌≡◌, ◌≢◌, ◌<◌, ℕ, false, List, Some, length, Contains}
use Rattle.base_types.specs.declared.verdict.placed.Places.{Places}
use Rattle.base_types.specs.declared.kubernetes.request.Decision.{Decision}
use Rattle.base_types.specs.Choices.{IsChoice}
use Rattle.history_model.specs.Decisions.{IsDecidedAt}
use Rattle.history_model.specs.Events.{Event}
use Rattle.history_model.specs.Histories.{History, ByEvent, IsEvent, ranges}
use Rattle.history_model.specs.Judging.{IsJudged}
use Rattle.history_model.specs.Machine.{Step, Put, Remove, Reply, InOrder, Runs, snapshot_map}
use Rattle.history_model.specs.States.{cuts}
use Rattle.history_model.specs.Windows.{InWindow}
use Rattle.history_model.specs.Words.{At, Strays, word}

-- One place for each removal, for all readers; one place for the answer of each event; and the places of the
-- caches for each decision. Of an event without an answer to place, or without a decision, they say nothing.
pub record Placement : Type 0 where
  pub choice : List ℕ
  pub at_place : (event : ℕ) → ℕ
  pub decided : (event : ℕ) → Places

-- a step of a placement up to n: all writes, and the answers of the first n events
abbrev pub IsStep : History → ℕ → Placement → Step → Type 0
IsStep h n p (Put v) = Contains h.versions v × (h.start < v.revision)
IsStep h n p (Remove cut) = Contains (cuts h.removals p.choice) cut
IsStep h n p (Reply number event place) = IsJudged h n number × IsEvent h number event × (word h number event ≡ At) × (place ≡ p.at_place number)

-- the steps, each once, in the machine's order
pub record AreSteps (h : History) (n : ℕ) (p : Placement) (steps : List Step) : Type 0 where
  pub order : InOrder h steps
  pub sound : (step : Step) → Contains steps step → IsStep h n p step
  pub full : (step : Step) → IsStep h n p step → Contains steps step

-- the step is one of the first n events; later writes happen unjudged
abbrev pub IsOfFirst : History → ℕ → Step → Type 0
IsOfFirst h n (Put v) = (number : ℕ) × (v.maker ≡ ByEvent number) × IsJudged h n number
IsOfFirst h n (Remove cut) = IsJudged h n cut.removal.range.event
IsOfFirst h n (Reply number event place) = IsJudged h n number

-- what an event must be whatever the placement: logged as the policy says, and no stray
pub record IsSound (h : History) (number : ℕ) (event : Event) : Type 0 where
  pub level : event.other_level ≡ false
  pub stage : event.omitted_stage ≡ false
  pub no_stray : word h number event ≢ Strays

-- the first n events stand at places that they may have
pub record IsPlacedUpTo (h : History) (n : ℕ) (p : Placement) : Type 0 where
  pub chosen : IsChoice (ranges h) p.choice
  pub sound : (number : ℕ) (event : Event) → IsJudged h n number → IsEvent h number event → IsSound h number event
  pub windows : (number : ℕ) (event : Event) → IsJudged h n number → IsEvent h number event → word h number event ≡ At
      → InWindow h event (p.at_place number)
  pub decisions : (number : ℕ) (event : Event) (decision : Decision) → IsJudged h n number → IsEvent h number event
      → event.decision ≡ Some decision → IsDecidedAt h number event (p.decided number)

-- the machine takes all steps, and those of the first n events are allowed
pub record IsRunUpTo (h : History) (n : ℕ) (p : Placement) : Type 0 where
  pub placed : IsPlacedUpTo h n p
  pub steps : List Step
  pub are : AreSteps h n p steps
  pub runs : Runs h (IsOfFirst h n) (snapshot_map h) steps

-- a run up to all events
abbrev pub IsRun : History → Placement → Type 0
IsRun h p = IsRunUpTo h (length h.order) p

abbrev pub IsExplainedUpTo : History → ℕ → Type 0
IsExplainedUpTo h n = (p : Placement) × IsRunUpTo h n p

abbrev pub IsExplained : History → Type 0
IsExplained h = IsExplainedUpTo h (length h.order)
