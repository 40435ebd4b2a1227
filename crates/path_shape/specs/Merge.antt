-- A step of the comparison of two lists of members, each in the order of the names.
use Rattle.std.specs.Prelude.{◌≡◌, ℕ, ◌⊎◌, true, false, List}
use Rattle.std.specs.Ordering.{nat_cmp}
use Rattle.std.specs.declared.cmp.Ordering.TheVariants.{Less, Greater}
use Rattle.std.specs.Cmp.Lexicographic.{slice_cmp}
use Rattle.base_types.specs.Meaning.{Meaning}
use Rattle.path_shape.specs.declared.sameness.Turn.{Turn}
use Rattle.path_shape.specs.declared.sameness.Turn.TheVariants.{Both, First, Second, Differ}
use Rattle.path_shape.specs.Forms.{thin, left_of, says_nothing}

-- the first member stands before the second, and something is left of it
abbrev pub StandsAlone : List ℕ × Meaning → List ℕ × Meaning → Type 0
StandsAlone m n = (slice_cmp nat_cmp m.0 n.0 ≡ Less) × (says_nothing (thin m.1) ≡ false)

abbrev pub IsTurn : List ℕ × Meaning → List ℕ × Meaning → Turn → Type 0
IsTurn m n Both = (m.0 ≡ n.0) × (left_of m.1 ≡ left_of n.1)
IsTurn m n First = (slice_cmp nat_cmp m.0 n.0 ≡ Less) × (says_nothing (thin m.1) ≡ true)
IsTurn m n Second = (slice_cmp nat_cmp m.0 n.0 ≡ Greater) × (says_nothing (thin n.1) ≡ true)
IsTurn m n Differ =
    ((m.0 ≡ n.0) × (left_of m.1 ≡ left_of n.1 → ⊥))
    ⊎ (((slice_cmp nat_cmp m.0 n.0 ≡ Less) × (says_nothing (thin m.1) ≡ false)) ⊎ ((slice_cmp nat_cmp m.0 n.0 ≡ Greater) × (says_nothing (thin n.1) ≡ false)))
