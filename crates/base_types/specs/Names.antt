-- The names of an object's members: distinct, and in the order of their bytes.
use Rattle.std.specs.Prelude.{ℕ, List, [], ◌∷◌}
use Rattle.std.specs.Ordering.{nat_cmp}
use Rattle.std.specs.Cmp.Lexicographic.{slice_cmp}
use Rattle.std.specs.List.Sorted.{IsStrictlySortedBy}
use Rattle.base_types.specs.Meaning.{Meaning}

abbrev pub names : List (List ℕ × Meaning) → List (List ℕ)
names [] = []
names (m ∷ ms) = m.0 ∷ names ms

abbrev pub AreSorted : List (List ℕ × Meaning) → Type 0
AreSorted ms = IsStrictlySortedBy (slice_cmp nat_cmp) (names ms)
