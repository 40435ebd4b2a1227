-- The least four places at which a decision could be given.
use Rattle.std.specs.Prelude.{◌≡◌, ◌≤◌, ℕ, Bool, true}
use Rattle.base_types.specs.declared.verdict.placed.Places.{Places}

abbrev pub IsWithin : (low high place : ℕ) → Type 0
IsWithin low high place = (low ≤ place) × (place ≤ high)

-- the decision could be given by caches that stand at these places from low to high
pub record IsGivenAt (decides : Places → Bool) (low high : ℕ) (places : Places) : Type 0 where
  pub of_roles : IsWithin low high places.roles
  pub of_cluster_roles : IsWithin low high places.cluster_roles
  pub of_bindings : IsWithin low high places.bindings
  pub of_cluster_bindings : IsWithin low high places.cluster_bindings
  pub right : decides places ≡ true

abbrev pub AreNoneWithin : (Places → Bool) → (low high : ℕ) → Type 0
AreNoneWithin decides low high = (places : Places) → IsGivenAt decides low high places → ⊥
