-- The order of four caches' places.
use Rattle.std.specs.Prelude.{◌≡◌, ◌<◌, ◌≤◌, ◌⊎◌, ℕ}
use Rattle.base_types.specs.declared.verdict.placed.Places.{Places}

-- the first number is the lesser one, or they are the same and the rest decides
abbrev pub ComesFirst : ℕ → ℕ → Type 0 → Type 0
ComesFirst a b rest = (a < b) ⊎ ((a ≡ b) × rest)

-- places are compared by their roles, then their cluster roles, bindings and cluster bindings
abbrev pub IsUpTo : Places → Places → Type 0
IsUpTo a b = ComesFirst a.roles b.roles (ComesFirst a.cluster_roles b.cluster_roles (ComesFirst a.bindings b.bindings (a.cluster_bindings ≤ b.cluster_bindings)))

-- it holds of these places, and of no lesser ones
pub record AreLeastPlaces (holds : Places → Type 0) (places : Places) : Type 0 where
  pub decided : holds places
  pub least : (other : Places) → holds other → IsUpTo places other
