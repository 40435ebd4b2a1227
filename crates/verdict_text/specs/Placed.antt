-- The text of a placed line: LINE ANSWER DECISION.
use Rattle.std.specs.Prelude.{ℕ, List, [], ◌∷◌, Option, Some, None, IfSome, codes, decimal}
use Rattle.base_types.specs.declared.kubernetes.request.Decision.{Decision}
use Rattle.base_types.specs.declared.kubernetes.request.Decision.TheVariants.{Allow, Forbid}
use Rattle.base_types.specs.declared.verdict.placed.Places.{Places}
use Rattle.base_types.specs.declared.verdict.placed.PlacedAnswer.{PlacedAnswer}
use Rattle.base_types.specs.declared.verdict.placed.PlacedAnswer.TheVariants.{Made, Removed, At, Nowhere}
use Rattle.base_types.specs.declared.verdict.placed.PlacedDecision.{PlacedDecision}
use Rattle.base_types.specs.declared.verdict.placed.PlacedLine.{PlacedLine}
use Rattle.verdict_text.specs.Words.{spaced, IsNumber}

abbrev pub answer_text : PlacedAnswer → List ℕ
answer_text (Made revision) = spaced (codes "made" ∷ decimal revision ∷ [])
answer_text (Removed place) = spaced (codes "removed" ∷ decimal place ∷ [])
answer_text (At place) = spaced (codes "at" ∷ decimal place ∷ [])
answer_text Nowhere = codes "none"

abbrev pub decision_word : Decision → List ℕ
decision_word Allow = codes "allow"
decision_word Forbid = codes "forbid"

-- the places of the caches of roles, cluster roles, role bindings and cluster role bindings
abbrev pub places_text : Places → List ℕ
places_text places = spaced (decimal places.roles ∷ decimal places.cluster_roles ∷ decimal places.bindings ∷ decimal places.cluster_bindings ∷ [])

abbrev pub decision_text : Option PlacedDecision → List ℕ
decision_text None = codes "none"
decision_text (Some judged) = spaced (decision_word judged.decision ∷ places_text judged.places ∷ [])

-- LINE ANSWER DECISION
abbrev pub placed_text : PlacedLine → List ℕ
placed_text placed = spaced (decimal placed.line ∷ answer_text placed.answer ∷ decision_text placed.decision ∷ [])

-- all numbers of a placed line are numbers that a text may have

abbrev pub FitsAnswer : PlacedAnswer → Type 0
FitsAnswer (Made revision) = IsNumber revision
FitsAnswer (Removed place) = IsNumber place
FitsAnswer (At place) = IsNumber place
FitsAnswer Nowhere = Unit {0}

pub record FitsPlaces (places : Places) : Type 0 where
  pub roles : IsNumber places.roles
  pub cluster_roles : IsNumber places.cluster_roles
  pub bindings : IsNumber places.bindings
  pub cluster_bindings : IsNumber places.cluster_bindings

abbrev pub FitsDecision : Option PlacedDecision → Type 0
FitsDecision decision = IfSome decision (λ judged. FitsPlaces judged.places)

pub record FitsPlaced (placed : PlacedLine) : Type 0 where
  pub line : IsNumber placed.line
  pub answer : FitsAnswer placed.answer
  pub decision : FitsDecision placed.decision
