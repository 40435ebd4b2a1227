-- Where a place stands among the revisions of one key.
use Rattle.std.specs.Prelude.{◌≡◌, ◌<◌, ◌≤◌, ℕ, ◌⊎◌, List, Contains}

-- the greatest of the revisions at or below the place, or 0 where there is none
pub record IsLatest (revisions : List ℕ) (place latest : ℕ) : Type 0 where
  pub among : (latest ≡ 0) ⊎ Contains revisions latest
  pub bound : latest ≤ place
  pub greatest : (revision : ℕ) → Contains revisions revision → revision ≤ place → revision ≤ latest

-- places are numbers of 64 bits
abbrev pub last_place : ℕ
last_place = 18446744073709551615

-- one of the revisions lies above the place, and not above the other
abbrev pub SomeBetween : List ℕ → ℕ → ℕ → Type 0
SomeBetween revisions place other = (revision : ℕ) × (Contains revisions revision) × (place < revision) × (revision ≤ other)

-- the last place before the next revision, or of all
pub record IsLastBeforeNext (revisions : List ℕ) (place last : ℕ) : Type 0 where
  pub from_place : place ≤ last
  pub before : (revision : ℕ) → Contains revisions revision → place < revision → last < revision
  pub next : (other : ℕ) → last < other → other ≤ last_place → SomeBetween revisions place other
