-- Decisions and their places.
use Rattle.std.proofs.Common.{◌≡◌, ◌↔◌, Bool, Some, ap}
use Rattle.std.specs.Prelude.{IsTrue}
use Rattle.std.proofs.lemmas.Option.{same_Some}
use Rattle.base_types.specs.declared.verdict.placed.PlacedDecision.{PlacedDecision}
use Rattle.base_types.specs.declared.kubernetes.request.Decision.{Decision}
use Rattle.history_model.specs.Checking.{HasDecisionWord}

-- a placed decision has the word of its decision
pub placed_so : (decided : Decision) (placed : PlacedDecision) (same : Bool) → IsTrue same ↔ (placed.decision ≡ decided) → IsTrue same ↔ HasDecisionWord (Some decided) (Some placed)
placed_so decided placed same law = (to, from)
  where
    to : IsTrue same → HasDecisionWord (Some decided) (Some placed)
    to s = (placed.places, λ i. Some (record { decision = law.0 s i; places = placed.places }))

    from : HasDecisionWord (Some decided) (Some placed) → IsTrue same
    from (places, e) = law.1 (ap (λ (z : PlacedDecision). z.decision) (same_Some placed (record { decision = decided; places = places }) e))
