-- How many of many things a page leaves out.
use Rattle.std.specs.Prelude.{ℕ, ◌-◌, nat_lt, List, [], ◌∷◌, codes, if◌then◌else◌}
use Rattle.markup.specs.Pieces.{fixed, number, shown}

-- how many there are beyond the most that are shown, where there are some
unfoldable pub rest_text : ℕ → ℕ → List ℕ → List ℕ
rest_text most count words =
    if nat_lt most count
    then shown (fixed (codes "<p>") ∷ fixed words ∷ fixed (codes ": ") ∷ number (count - most) ∷ fixed (codes ".</p>\n") ∷ [])
    else []
