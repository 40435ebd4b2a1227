-- The removals by the revisions of the versions that they ended.
use Rattle.std.specs.Prelude.{◌≡◌, ◌+◌, ℕ, List, [], ◌∷◌, Some, slice_get, Contains}
use Rattle.std.specs.List.Sorted.{IsNonDecreasingBy}
use Rattle.object_past.specs.declared.ending.Ending.{Ending}
use Rattle.object_past.specs.declared.removal.Removal.{Removal}

abbrev pub ending_of : ℕ → Removal → Ending
ending_of position removal = record { last = removal.last; position = position; high = removal.range.high }

abbrev pub endings_from : ℕ → List Removal → List Ending
endings_from position [] = []
endings_from position (removal ∷ removals) = ending_of position removal ∷ endings_from (position + 1) removals

abbrev pub ByLast : List Ending → Type 0
ByLast endings = IsNonDecreasingBy (λ ending. ending.last) endings

-- one ending for each removal, by their last versions
pub record AreEndings (removals : List Removal) (endings : List Ending) : Type 0 where
  pub rising : ByLast endings
  pub sound : (ending : Ending) → Contains endings ending → (removal : Removal) × (slice_get removals ending.position ≡ Some removal) × (ending ≡ ending_of ending.position removal)
  pub full : (position : ℕ) (removal : Removal) → slice_get removals position ≡ Some removal → Contains endings (ending_of position removal)
