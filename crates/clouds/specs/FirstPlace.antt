-- The least place of a range of which something holds.
use Rattle.std.specs.Prelude.{◌≤◌, ℕ, min, Option, Some, None}

pub record IsLeastPlace (holds : ℕ → Type 0) (low high place : ℕ) : Type 0 where
  pub from_low : low ≤ place
  pub upto_high : place ≤ high
  pub here : holds place
  pub least : (other : ℕ) → low ≤ other → holds other → place ≤ other

abbrev pub HoldsNowhere : (ℕ → Type 0) → ℕ → ℕ → Type 0
HoldsNowhere holds low high = (place : ℕ) → low ≤ place → place ≤ high → holds place → ⊥

abbrev pub IsFirstPlace : (ℕ → Type 0) → ℕ → ℕ → Option ℕ → Type 0
IsFirstPlace holds low high None = HoldsNowhere holds low high
IsFirstPlace holds low high (Some place) = IsLeastPlace holds low high place

-- the lesser of two places, where there are any
abbrev pub lesser_place : Option ℕ → Option ℕ → Option ℕ
lesser_place None b = b
lesser_place (Some a) None = Some a
lesser_place (Some a) (Some b) = Some (min a b)
