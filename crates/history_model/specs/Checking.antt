-- The check of a given placement, and its first fault.
use Rattle.std.specs.Prelude.{◌≡◌, ◌≢◌, ◌≤◌, ◌++◌, ◌∷◌, ℕ, ◌⊎◌, true, false, List, Option, Some, None, length, slice_get, Contains, Bool}
use Rattle.base_types.specs.Choices.{IsPlaceOf}
use Rattle.base_types.specs.Reasons.{code_number}
use Rattle.base_types.specs.declared.verdict.claim.Reason.{Reason}
use Rattle.base_types.specs.declared.verdict.claim.Reason.TheVariants.{U1, U2, U3, U7, U14}
use Rattle.base_types.specs.declared.verdict.placed.PlacedAnswer.{PlacedAnswer}
use Rattle.base_types.specs.declared.verdict.placed.PlacedAnswer.TheVariants as placed
use Rattle.base_types.specs.declared.verdict.placed.PlacedDecision.{PlacedDecision}
use Rattle.base_types.specs.declared.verdict.placed.PlacedLine.{PlacedLine}
use Rattle.base_types.specs.declared.verdict.placed.Places.{Places}
use Rattle.base_types.specs.declared.kubernetes.request.Decision.{Decision}
use Rattle.history_model.specs.Clouds.{IsClouded}
use Rattle.history_model.specs.Decisions.{AreCachePlaces}
use Rattle.history_model.specs.Events.{Item, Event, Made}
use Rattle.history_model.specs.Groups.{Making, IsMaking}
use Rattle.history_model.specs.Histories.{History, Version, ByEvent, IsEvent}
use Rattle.history_model.specs.Machine.{Step, Put, Remove, Reply, MayRemove, Runs, after_all, snapshot_map, step_line}
use Rattle.history_model.specs.Making.{HasFault, HasFoundFault}
use Rattle.history_model.specs.Placed.{placement_of, line_place, line_places}
use Rattle.history_model.specs.Right.{IsRight, answer_code}
use Rattle.history_model.specs.Runs.{AreSteps, IsRun}
use Rattle.history_model.specs.States.{Map, Cut}
use Rattle.history_model.specs.Windows.{InWindow}
use Rattle.history_model.specs.Words.{Word, Makes, Removes, At, Strays, Nothing, word}

-- V1: the lines aren't those of the log; V2: a place that the event may not have; or an event's code
pub data CheckCode : Type 0 where
  V1 : CheckCode
  V2 : CheckCode
  Judged : Reason → CheckCode

abbrev pub HasAnswerWord : Word → PlacedAnswer → Type 0
HasAnswerWord (Makes m) answer = (revision : ℕ) × (answer ≡ placed.Made revision)
HasAnswerWord (Removes removal) answer = (place : ℕ) × (answer ≡ placed.Removed place)
HasAnswerWord At answer = (place : ℕ) × (answer ≡ placed.At place)
HasAnswerWord Strays answer = answer ≡ placed.Nowhere
HasAnswerWord Nothing answer = answer ≡ placed.Nowhere

abbrev pub HasDecisionWord : Option Decision → Option PlacedDecision → Type 0
HasDecisionWord None decision = decision ≡ None
HasDecisionWord (Some decided) decision = (places : Places) × (decision ≡ Some (record { decision = decided; places = places }))

pub record HasWords (h : History) (number : ℕ) (event : Event) (line : PlacedLine) : Type 0 where
  pub answer : HasAnswerWord (word h number event) line.answer
  pub decision : HasDecisionWord event.decision line.decision

-- one of the log and the placement lacks this line, or the placement's words aren't the event's
pub data DiffersAt (h : History) (lines : List PlacedLine) (at : ℕ) : Type 0 where
  lacking : (number : ℕ) → (event : Event) → IsEvent h number event → event.line ≡ at
      → ((line : PlacedLine) → Contains lines line → line.line ≡ at → ⊥) → DiffersAt h lines at
  unknown : (line : PlacedLine) → Contains lines line → line.line ≡ at
      → ((number : ℕ) (event : Event) → IsEvent h number event → event.line ≡ at → ⊥) → DiffersAt h lines at
  differing : (number : ℕ) → (event : Event) → (line : PlacedLine) → IsEvent h number event → event.line ≡ at → Contains lines line → line.line ≡ at
      → (HasWords h number event line → ⊥) → DiffersAt h lines at

-- a code that no placement mends
pub data HasStandingCode (h : History) (number : ℕ) (event : Event) (code : Reason) : Type 0 where
  by_level : code ≡ U1 → event.other_level ≡ true → HasStandingCode h number event code
  by_stage : code ≡ U2 → event.omitted_stage ≡ true → HasStandingCode h number event code
  by_stray : code ≡ U3 → word h number event ≡ Strays → HasStandingCode h number event code

pub record HasCodeAt (h : History) (at : ℕ) (code : Reason) : Type 0 where
  pub number : ℕ
  pub event : Event
  pub known : IsEvent h number event
  pub of_line : event.line ≡ at
  pub has : HasStandingCode h number event code

-- the placed answer isn't at a place that the event may have, or names another revision
abbrev pub IsOutside : History → Event → Word → ℕ → Type 0
IsOutside h event (Makes m) place = place ≢ m.item.revision
IsOutside h event (Removes removal) place = IsPlaceOf removal.range place → ⊥
IsOutside h event At place = InWindow h event place → ⊥
IsOutside h event Strays place = ⊥
IsOutside h event Nothing place = ⊥

pub record IsMisplacedAt (h : History) (lines : List PlacedLine) (at : ℕ) : Type 0 where
  pub number : ℕ
  pub event : Event
  pub known : IsEvent h number event
  pub of_line : event.line ≡ at
  pub outside : IsOutside h event (word h number event) (line_place (slice_get lines number))
      ⊎ ((decided : Decision) × (event.decision ≡ Some decided) × (AreCachePlaces h event (line_places (slice_get lines number)) → ⊥))

-- why a step isn't allowed
pub data HasStepCode (h : History) (map : Map) (step : Step) (code : Reason) : Type 0 where
  at_put : (v : Version) → (m : Making) → step ≡ Put v → IsMaking h m → v.maker ≡ ByEvent m.number → HasFault h m (map v.key) code → HasStepCode h map step code
  at_remove : (cut : Cut) → (event : Event) → code ≡ U7 → step ≡ Remove cut → IsEvent h cut.removal.range.event event
      → (MayRemove h event cut.removal (map cut.removal.key) → ⊥) → HasStepCode h map step code
  at_found : (number : ℕ) → (event : Event) → (place : ℕ) → (item : Item) → (created : Bool) → step ≡ Reply number event place → event.answer ≡ Made item created
      → (IsClouded h item.key place → ⊥) → HasFoundFault h (record { number = number; event = event; item = item; created = created }) code → HasStepCode h map step code
  at_reply : (number : ℕ) → (event : Event) → (place : ℕ) → code ≡ answer_code event.answer → step ≡ Reply number event place
      → (IsRight h number event place map → ⊥) → HasStepCode h map step code

-- every step counts here; a version without a maker is always allowed
abbrev pub EachStep : Step → Type 0
EachStep step = Unit {0}

-- the first step that isn't allowed, on what the steps before it left
pub record IsStepFault (h : History) (lines : List PlacedLine) (at : ℕ) (code : Reason) : Type 0 where
  pub steps : List Step
  pub are : AreSteps h (length h.order) (placement_of h lines) steps
  pub done : List Step
  pub step : Step
  pub rest : List Step
  pub whole : steps ≡ done ++ step ∷ rest
  pub before : Runs h EachStep (snapshot_map h) done
  pub of_line : step_line h step ≡ at
  pub has : HasStepCode h (after_all (snapshot_map h) done) step code
  pub least : (other : Reason) → HasStepCode h (after_all (snapshot_map h) done) step other → code_number code ≤ code_number other

-- all steps are allowed
pub record AreAllowed (h : History) (lines : List PlacedLine) : Type 0 where
  pub steps : List Step
  pub are : AreSteps h (length h.order) (placement_of h lines) steps
  pub runs : Runs h EachStep (snapshot_map h) steps

pub record IsUndecidedAt (h : History) (lines : List PlacedLine) (at : ℕ) : Type 0 where
  pub number : ℕ
  pub event : Event
  pub decided : Decision
  pub known : IsEvent h number event
  pub of_line : event.line ≡ at
  pub judged : event.decision ≡ Some decided
  pub wrong : h.decides number (line_places (slice_get lines number)) ≡ false

abbrev pub IsLeastLine : (ℕ → Type 0) → ℕ → Type 0
IsLeastLine Holds at = Holds at × ((other : ℕ) → Holds other → at ≤ other)

abbrev pub NoLine : (ℕ → Type 0) → Type 0
NoLine Holds = (at : ℕ) → Holds at → ⊥

abbrev pub HasSomeCodeAt : History → ℕ → Type 0
HasSomeCodeAt h at = (code : Reason) × HasCodeAt h at code

-- each event and checkpoint has its line, is logged as the policy says, and stands at a place that it may have
pub record IsFitting (h : History) (lines : List PlacedLine) : Type 0 where
  pub alike : NoLine (DiffersAt h lines)
  pub standing : NoLine (HasSomeCodeAt h)
  pub inside : NoLine (IsMisplacedAt h lines)

-- The first fault: of the lines, then of what no placement mends, then of the places, each by line; then of
-- the steps in the machine's order; then of the decisions by line.
pub data IsFirstFault (h : History) (lines : List PlacedLine) (at : ℕ) (code : CheckCode) : Type 0 where
  of_lines : code ≡ V1 → IsLeastLine (DiffersAt h lines) at → IsFirstFault h lines at code
  of_policy : (reason : Reason) → code ≡ Judged reason → NoLine (DiffersAt h lines) → IsLeastLine (HasSomeCodeAt h) at
      → HasCodeAt h at reason → ((other : Reason) → HasCodeAt h at other → code_number reason ≤ code_number other) → IsFirstFault h lines at code
  of_places : code ≡ V2 → NoLine (DiffersAt h lines) → NoLine (HasSomeCodeAt h) → IsLeastLine (IsMisplacedAt h lines) at → IsFirstFault h lines at code
  of_steps : (reason : Reason) → code ≡ Judged reason → IsFitting h lines → IsStepFault h lines at reason → IsFirstFault h lines at code
  of_decisions : code ≡ Judged U14 → IsFitting h lines → AreAllowed h lines → IsLeastLine (IsUndecidedAt h lines) at → IsFirstFault h lines at code

-- no fault at all
pub record IsFaultless (h : History) (lines : List PlacedLine) : Type 0 where
  pub fitting : IsFitting h lines
  pub allowed : AreAllowed h lines
  pub decided : NoLine (IsUndecidedAt h lines)

-- the lines have the words of the log, and the placement that they spell is a run
pub record IsVerified (h : History) (lines : List PlacedLine) : Type 0 where
  pub alike : NoLine (DiffersAt h lines)
  pub inside : NoLine (IsMisplacedAt h lines)
  pub run : IsRun h (placement_of h lines)
