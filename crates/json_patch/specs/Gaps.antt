-- Where a member of an object that is kept in chunks would stand.
use Rattle.std.specs.Prelude.{◌≡◌, ℕ, ◌<◌, ◌≤◌, ◌-◌, List, [], ◌∷◌, length, get_or, take, drop}
use Rattle.std.specs.List.{AllByRecursion}
use Rattle.std.specs.Ordering.{nat_cmp}
use Rattle.std.specs.declared.cmp.Ordering.TheVariants.{Less, Greater}
use Rattle.std.specs.Cmp.Lexicographic.{slice_cmp}
use Rattle.base_types.specs.Meaning.{Meaning}
use Rattle.base_types.specs.Names.{names}
use Rattle.json_patch.specs.Joined.{joined}
use Rattle.json_patch.specs.declared.chunks.Place.{Place}
use Rattle.json_patch.specs.declared.members.Span.{Span}

-- a member can be put in there: in a chunk, or where there is none
pub record IsGapIn (parts : List (List (List ℕ × Meaning))) (place : Place) : Type 0 where
  pub part : 0 < length parts → place.part < length parts
  pub offset : place.offset ≤ length (get_or parts place.part [])

-- the name of the first member
abbrev pub first_name : List (List ℕ × Meaning) → List ℕ
first_name [] = []
first_name (m ∷ ms) = m.0

-- the chunks before the first of these but one stand before the name, and those behind them stand behind it
pub record IsNarrowed (name : List ℕ) (parts : List (List (List ℕ × Meaning))) (rest : Span) : Type 0 where
  pub order : rest.low ≤ rest.high
  pub within : rest.high ≤ length parts
  pub before : AllByRecursion (λ k. slice_cmp nat_cmp k name ≡ Less) (names (joined (take (rest.low - 1) parts)))
  pub after : AllByRecursion (λ k. slice_cmp nat_cmp k name ≡ Greater) (names (joined (drop rest.high parts)))

-- so many chunks begin at the name or before it: the name can stand in the last of them alone
pub record BeginUpTo (name : List ℕ) (parts : List (List (List ℕ × Meaning))) (count : ℕ) : Type 0 where
  pub within : count ≤ length parts
  pub before : AllByRecursion (λ k. slice_cmp nat_cmp k name ≡ Less) (names (joined (take (count - 1) parts)))
  pub after : AllByRecursion (λ k. slice_cmp nat_cmp k name ≡ Greater) (names (joined (drop count parts)))
