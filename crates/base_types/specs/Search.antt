-- Where a name stands among the members of an object, or would stand.
use Rattle.std.specs.Prelude.{◌≡◌, ℕ, ◌≤◌, List, Some, length, take, drop, slice_get}
use Rattle.std.specs.List.{AllByRecursion}
use Rattle.std.specs.Ordering.{nat_cmp}
use Rattle.std.specs.declared.cmp.Ordering.TheVariants.{Less, Greater}
use Rattle.std.specs.Cmp.Lexicographic.{slice_cmp}
use Rattle.base_types.specs.Meaning.{Meaning}
use Rattle.base_types.specs.Names.{names}

-- the member at this position has the name
abbrev pub IsNamedAt : List ℕ → List (List ℕ × Meaning) → ℕ → Type 0
IsNamedAt name ms at = slice_get (names ms) at ≡ Some name

-- no member has the name, and one of that name would stand at this position
pub record IsPlaceFor (name : List ℕ) (ms : List (List ℕ × Meaning)) (at : ℕ) : Type 0 where
  pub within : at ≤ length ms
  pub before : AllByRecursion (λ k. slice_cmp nat_cmp k name ≡ Less) (names (take at ms))
  pub after : AllByRecursion (λ k. slice_cmp nat_cmp k name ≡ Greater) (names (drop at ms))
