-- Where something stands in a drawing.
use Rattle.std.specs.Prelude.{◌≡◌, ◌≤◌, ◌<◌, ℕ, ◌+◌, ◌-◌, ◌*◌, ◌/◌, min, max}
use Rattle.markup.specs.declared.drawing.Axis.{Axis}

-- a place of the axis, or its nearer end
abbrev pub kept_within : Axis → ℕ → ℕ
kept_within axis place = max axis.low (min place axis.high)

-- An axis of one place alone counts as one of two.
abbrev pub span : Axis → ℕ
span axis = max 1 (axis.high - axis.low)

-- how far right a place stands, in the drawing's units
abbrev pub position : Axis → ℕ → ℕ
position axis place = axis.left + (kept_within axis place - axis.low) * axis.width / span axis

-- A later place stands further right, or in the same spot.
abbrev pub PlacesRise : Type 0
PlacesRise = (axis : Axis) (earlier later : ℕ) → earlier ≤ later → position axis earlier ≤ position axis later

-- The first place stands at the line's begin, and the last, where it is another, at its end.
abbrev pub FirstIsLeft : Type 0
FirstIsLeft = (axis : Axis) → position axis axis.low ≡ axis.left

abbrev pub LastIsRight : Type 0
LastIsRight = (axis : Axis) → axis.low < axis.high → position axis axis.high ≡ axis.left + axis.width
