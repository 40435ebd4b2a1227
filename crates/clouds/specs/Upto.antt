-- Those of some lengths that are up to a most.
use Rattle.std.specs.Prelude.{◌≤◌, ◌↔◌, ℕ, List, Contains}

-- those of the lengths that are up to the most
abbrev pub AreUpto : List ℕ → ℕ → List ℕ → Type 0
AreUpto lengths most upto = (length : ℕ) → Contains upto length ↔ (Contains lengths length × (length ≤ most))
