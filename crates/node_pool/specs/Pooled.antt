-- What a contract sees of a pool.
use Rattle.std.specs.Prelude.{◌≡◌, ℕ, List, Some, slice_get, refl}
use Rattle.std.specs.Coded.{Coded, code_by, coded×, coded_ℕ, coded_list}
use Rattle.base_types.specs.Meaning.{Meaning}
use Rattle.base_types.specs.Code.{coded_meaning}

-- the trees in the order of their numbers, and how many there may be
pub record Pooled : Type 0 where
  pub limit : ℕ
  pub trees : List Meaning

abbrev pub coded_pooled : Coded Pooled
coded_pooled =
    code_by (ℕ × List Meaning) (coded× coded_ℕ (coded_list coded_meaning)) (λ p. (p.limit, p.trees)) (λ q. record { limit = q.0; trees = q.1 }) (λ _. refl)

-- nothing stands twice in the list
abbrev pub AreDistinct : {X : Type 0} → List X → Type 0
AreDistinct {X} xs = (i j : ℕ) (x : X) → slice_get xs i ≡ Some x → slice_get xs j ≡ Some x → i ≡ j
