-- How far a walk over the members of a target is, and which of them stand before a name.
use Rattle.std.specs.Prelude.{◌≡◌, ℕ, ◌≤◌, List, [], ◌∷◌, ◌++◌, length, drop, Option, Some, None}
use Rattle.std.specs.List.{AllByRecursion}
use Rattle.std.specs.Ordering.{nat_cmp}
use Rattle.std.specs.Cmp.Lexicographic.{slice_cmp}
use Rattle.std.specs.declared.cmp.Ordering.TheVariants.{Less}
use Rattle.base_types.specs.Meaning.{Meaning}
use Rattle.base_types.specs.Names.{names, AreSorted}

-- each of these names is below the name
abbrev pub AllBelow : List ℕ → List (List ℕ × Meaning) → Type 0
AllBelow name ms = AllByRecursion (λ k. slice_cmp nat_cmp k name ≡ Less) (names ms)

-- the first of these members isn't below the name
abbrev pub StartsNotBelow : List ℕ → List (List ℕ × Meaning) → Type 0
StartsNotBelow name [] = Unit {0}
StartsNotBelow name (m ∷ ms) = slice_cmp nat_cmp m.0 name ≡ Less → ⊥

-- the value of the first of these members, where it has the name
abbrev pub IsFirstValue : List ℕ → List (List ℕ × Meaning) → Option Meaning → Type 0
IsFirstValue name [] value = value ≡ None
IsFirstValue name (m ∷ ms) None = m.0 ≡ name → ⊥
IsFirstValue name (m ∷ ms) (Some v) = (m.0 ≡ name) × (m.1 ≡ v)

-- the members behind the first, where its value was taken
abbrev pub behind : Option Meaning → List (List ℕ × Meaning) → List (List ℕ × Meaning)
behind None ms = ms
behind (Some v) [] = []
behind (Some v) (m ∷ ms) = ms

-- how far a walk over old members is: the made ones stand in for those before `at`
pub record HasWalkedTo (at : ℕ) (made old : List (List ℕ × Meaning)) : Type 0 where
  -- no place behind the last is meant
  pub within : at ≤ length old
  -- the made members and those still to come stand in order
  pub sorted : AreSorted (made ++ drop at old)
