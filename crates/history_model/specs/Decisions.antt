-- An authorizer keeps roles, cluster roles, role bindings and cluster role bindings in four caches
-- (Kubernetes "Using RBAC Authorization", API objects), and each may be behind by itself.
use Rattle.std.specs.Prelude.{◌≡◌, ◌≤◌, ℕ, true}
use Rattle.base_types.specs.declared.verdict.placed.Places.{Places}
use Rattle.history_model.specs.Events.{Event}
use Rattle.history_model.specs.Histories.{History}
use Rattle.history_model.specs.Windows.{decision_low, decision_high}

abbrev pub IsCachePlace : History → Event → ℕ → Type 0
IsCachePlace h event place = (decision_low h event ≤ place) × (place ≤ decision_high h event)

-- each cache stands at a place of the decision's range
pub record AreCachePlaces (h : History) (event : Event) (places : Places) : Type 0 where
  pub of_roles : IsCachePlace h event places.roles
  pub of_cluster_roles : IsCachePlace h event places.cluster_roles
  pub of_bindings : IsCachePlace h event places.bindings
  pub of_cluster_bindings : IsCachePlace h event places.cluster_bindings

-- the decision could be given by caches at these places
pub record IsDecidedAt (h : History) (number : ℕ) (event : Event) (places : Places) : Type 0 where
  pub inside : AreCachePlaces h event places
  pub right : h.decides number places ≡ true
