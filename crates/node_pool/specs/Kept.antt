-- What the functions inside the crate see of a pool: also the names, which no tree's number shows.
use Rattle.std.specs.Prelude.{◌≡◌, ℕ, ◌<◌, ◌≤◌, ◌^◌, List, [], length, refl}
use Rattle.std.specs.Coded.{Coded, code_by, coded×, coded_ℕ, coded_list}
use Rattle.base_types.specs.Meaning.{Meaning}
use Rattle.base_types.specs.Code.{coded_meaning, coded_bytes}
use Rattle.node_pool.specs.Flat.{Flat}
use Rattle.node_pool.specs.Pooled.{AreDistinct}
use Rattle.node_pool.specs.Subtrees.{Begins}
use Rattle.node_pool.specs.Within.{trees_from, AreWithin}

pub record Kept : Type 0 where
  pub limit : ℕ
  pub names : List (List ℕ)
  pub trees : List Meaning

abbrev pub coded_kept : Coded Kept
coded_kept =
    code_by (ℕ × (List (List ℕ) × List Meaning)) (coded× coded_ℕ (coded× (coded_list coded_bytes) (coded_list coded_meaning))) (λ p. (p.limit, (p.names, p.trees))) (λ q. record { limit = q.0; names = q.1.0; trees = q.1.1 }) (λ _. refl)

-- what the names and levels of a pool stand for
abbrev pub seen : ℕ → List (List ℕ) → List Flat → Kept
seen limit names levels = record { limit = limit; names = names; trees = trees_from names [] levels }

-- what holds of the names and levels of a pool
pub record AreLevelsKept (limit : ℕ) (names : List (List ℕ)) (levels : List Flat) : Type 0 where
  pub within : AreWithin names 0 levels
  pub one_number_a_name : AreDistinct names
  pub distinct : AreDistinct (trees_from names [] levels)
  pub room : length levels ≤ limit
  pub narrow : limit < 2 ^ 32

-- numbers that were given stay what they are
pub record Grows (old new : Kept) : Type 0 where
  pub limit : new.limit ≡ old.limit
  pub names : Begins old.names new.names
  pub trees : Begins old.trees new.trees
