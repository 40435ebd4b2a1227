-- Decisions and the places at which they could be given.
use Rattle.std.proofs.Common.{◌≡◌, ℕ, ◌≤◌, Bool, sym, ◌∙◌, subst}
use Rattle.base_types.specs.PlaceOrder.{AreLeastPlaces}
use Rattle.base_types.specs.declared.verdict.placed.Places.{Places}
use Rattle.history_model.specs.Decisions.{IsCachePlace, IsDecidedAt}
use Rattle.history_model.specs.Events.{Event}
use Rattle.history_model.specs.Histories.{History}
use Rattle.history_model.specs.Windows.{decision_low, decision_high}
use Rattle.event_claims.specs.Given.{IsWithin, IsGivenAt, AreNoneWithin}

module _ (h : History) (number : ℕ) (event : Event) (gives : Places → Bool) (low high : ℕ)
    (same : (places : Places) → gives places ≡ h.decides number places) (l : low ≡ decision_low h event) (m : high ≡ decision_high h event) where
  inside : (place : ℕ) → IsWithin low high place → IsCachePlace h event place
  inside place w = (subst (λ x. x ≤ place) l w.0, subst (λ x. place ≤ x) m w.1)

  within : (place : ℕ) → IsCachePlace h event place → IsWithin low high place
  within place w = (subst (λ x. x ≤ place) (sym l) w.0, subst (λ x. place ≤ x) (sym m) w.1)

  decided : (places : Places) → IsGivenAt gives low high places → IsDecidedAt h number event places
  decided places g = record {
    inside = record {
      of_roles = inside places.roles g.of_roles;
      of_cluster_roles = inside places.cluster_roles g.of_cluster_roles;
      of_bindings = inside places.bindings g.of_bindings;
      of_cluster_bindings = inside places.cluster_bindings g.of_cluster_bindings;
    };
    right = sym (same places) ∙ g.right;
  }

  given : (places : Places) → IsDecidedAt h number event places → IsGivenAt gives low high places
  given places d = record {
    of_roles = within places.roles d.inside.of_roles;
    of_cluster_roles = within places.cluster_roles d.inside.of_cluster_roles;
    of_bindings = within places.bindings d.inside.of_bindings;
    of_cluster_bindings = within places.cluster_bindings d.inside.of_cluster_bindings;
    right = same places ∙ d.right;
  }

  pub least_decided : (places : Places) → AreLeastPlaces (IsGivenAt gives low high) places → AreLeastPlaces (IsDecidedAt h number event) places
  least_decided places a = record { decided = decided places a.decided; least = λ other d. a.least other (given other d) }

  pub none_decided : AreNoneWithin gives low high → (places : Places) → IsDecidedAt h number event places → ⊥
  none_decided n places d = n places (given places d)
