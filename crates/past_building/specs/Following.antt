-- Positions of versions before and behind others of their keys.
use Rattle.std.specs.Prelude.{◌≡◌, ◌<◌, ℕ, List, Option, Some, None, length, slice_get}

-- each of these positions is before that of which it is known
abbrev pub AreBefore : List (Option ℕ) → Type 0
AreBefore earlier = (position before : ℕ) → slice_get earlier position ≡ Some (Some before) → before < position

-- the one of the positions below a bound before which this one is
abbrev pub IsNextBelow : List (Option ℕ) → ℕ → ℕ → Option ℕ → Type 0
IsNextBelow earlier bound position None = (later : ℕ) → later < bound → slice_get earlier later ≡ Some (Some position) → ⊥
IsNextBelow earlier bound position (Some next) = slice_get earlier next ≡ Some (Some position)

-- of each position the one behind it, as far as those below a bound are looked at
pub record AreNextsBelow (earlier : List (Option ℕ)) (bound : ℕ) (nexts : List (Option ℕ)) : Type 0 where
  pub all : length nexts ≡ length earlier
  pub each : (position : ℕ) (next : Option ℕ) → slice_get nexts position ≡ Some next → IsNextBelow earlier bound position next

abbrev pub AreNexts : List (Option ℕ) → List (Option ℕ) → Type 0
AreNexts earlier nexts = AreNextsBelow earlier (length earlier) nexts
