-- The lines of a placement: each event with its answer and its decision at their least places.
use Rattle.std.specs.Prelude.{◌≡◌, ◌≤◌, ℕ, List, Option, Some, None, length, map, slice_get, Contains}
use Rattle.base_types.specs.PlaceOrder.{AreLeastPlaces}
use Rattle.base_types.specs.declared.verdict.placed.PlacedAnswer.{PlacedAnswer}
use Rattle.base_types.specs.declared.verdict.placed.PlacedAnswer.TheVariants as placed
use Rattle.base_types.specs.declared.verdict.placed.PlacedDecision.{PlacedDecision}
use Rattle.base_types.specs.declared.verdict.placed.PlacedLine.{PlacedLine}
use Rattle.base_types.specs.declared.verdict.placed.Places.{Places}
use Rattle.base_types.specs.declared.kubernetes.request.Decision.{Decision}
use Rattle.history_model.specs.Decisions.{IsDecidedAt}
use Rattle.history_model.specs.Events.{Event}
use Rattle.history_model.specs.Histories.{History, Removal, IsEvent}
use Rattle.history_model.specs.Right.{IsRight}
use Rattle.history_model.specs.Runs.{Placement}
use Rattle.history_model.specs.States.{cuts, state}
use Rattle.history_model.specs.Windows.{InWindow}
use Rattle.history_model.specs.Words.{Word, Makes, Removes, At, Strays, Nothing, word}

-- the least place of its window at which the answer is right
pub record IsLeastPlace (h : History) (choice : List ℕ) (number : ℕ) (event : Event) (place : ℕ) : Type 0 where
  pub inside : InWindow h event place
  pub right : IsRight h number event place (state h choice place)
  pub least : (other : ℕ) → InWindow h event other → IsRight h number event other (state h choice other) → place ≤ other

abbrev pub IsPlacedAnswer : History → List ℕ → ℕ → Event → Word → PlacedAnswer → Type 0
IsPlacedAnswer h choice number event (Makes m) answer = answer ≡ placed.Made m.item.revision
IsPlacedAnswer h choice number event (Removes removal) answer = (place : ℕ) × Contains (cuts h.removals choice) (record { removal = removal; place = place }) × (answer ≡ placed.Removed place)
IsPlacedAnswer h choice number event At answer = (place : ℕ) × IsLeastPlace h choice number event place × (answer ≡ placed.At place)
IsPlacedAnswer h choice number event Strays answer = answer ≡ placed.Nowhere
IsPlacedAnswer h choice number event Nothing answer = answer ≡ placed.Nowhere

-- a decision is written exactly where it is judged
abbrev pub IsPlacedDecision : History → ℕ → Event → Option Decision → Option PlacedDecision → Type 0
IsPlacedDecision h number event None decision = decision ≡ None
IsPlacedDecision h number event (Some decided) decision = (places : Places) × AreLeastPlaces (IsDecidedAt h number event) places × (decision ≡ Some (record { decision = decided; places = places }))

pub record IsPlacedLine (h : History) (choice : List ℕ) (number : ℕ) (event : Event) (line : PlacedLine) : Type 0 where
  pub of_event : line.line ≡ event.line
  pub answer : IsPlacedAnswer h choice number event (word h number event) line.answer
  pub decision : IsPlacedDecision h number event event.decision line.decision

-- one line for each event and checkpoint, in their order
pub record ArePlacedLines (h : History) (choice : List ℕ) (lines : List PlacedLine) : Type 0 where
  pub all : length lines ≡ length h.events
  pub each : (number : ℕ) (event : Event) (line : PlacedLine) → IsEvent h number event → slice_get lines number ≡ Some line → IsPlacedLine h choice number event line

abbrev pub answer_place : PlacedAnswer → ℕ
answer_place (placed.Made revision) = revision
answer_place (placed.Removed place) = place
answer_place (placed.At place) = place
answer_place placed.Nowhere = 0

abbrev pub no_places : Places
no_places = record { roles = 0; cluster_roles = 0; bindings = 0; cluster_bindings = 0 }

abbrev pub decision_places : Option PlacedDecision → Places
decision_places None = no_places
decision_places (Some decision) = decision.places

abbrev pub line_place : Option PlacedLine → ℕ
line_place None = 0
line_place (Some line) = answer_place line.answer

abbrev pub line_places : Option PlacedLine → Places
line_places None = no_places
line_places (Some line) = decision_places line.decision

-- the placement that lines spell
abbrev pub placement_of : History → List PlacedLine → Placement
placement_of h lines = record {
  choice = map (λ (removal : Removal). line_place (slice_get lines removal.range.event)) h.removals;
  at_place = λ number. line_place (slice_get lines number);
  decided = λ number. line_places (slice_get lines number);
}
