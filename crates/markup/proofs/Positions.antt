-- Places rise along a line.
use Rattle.std.proofs.Common.{◌≡◌, ℕ, ◌≤◌, ◌<◌, ◌+◌, ◌/◌, ap, ◌∙◌, arith}
use Rattle.std.specs.Prelude.{◌-◌, ◌*◌}
use Rattle.std.proofs.Math.Nat.{div-eq_of_eq-mul_left, div-mul-le_self, le_trans, mul-le-mul_right, mul_comm, zero-mul, zero-div}
use Rattle.std.proofs.lemmas.Nat.{le-div}
use Rattle.markup.specs.declared.drawing.Axis.{Axis}
use Rattle.markup.specs.Drawing.{FirstIsLeft, LastIsRight, PlacesRise, kept_within, span}

div_rises : (a b k : ℕ) → 0 < k → a ≤ b → a / k ≤ b / k
div_rises a b k some below = le-div (a / k) b k some (le_trans (div-mul-le_self a k) below)

kept_rises : (axis : Axis) (a b : ℕ) → a ≤ b → kept_within axis a - axis.low ≤ kept_within axis b - axis.low
kept_rises axis a b below = omega arith

span_some : (axis : Axis) → 0 < span axis
span_some axis = omega arith

add_rises : (left a b : ℕ) → a ≤ b → left + a ≤ left + b
add_rises left a b below = omega arith

pub places-rise : PlacesRise
places-rise axis a b below =
    add_rises axis.left _ _ (div_rises _ _ (span axis) (span_some axis) (mul-le-mul_right axis.width (kept_rises axis a b below)))

first_kept : (axis : Axis) → kept_within axis axis.low - axis.low ≡ 0
first_kept axis = omega arith

first_place : (left width over : ℕ) → left + 0 * width / over ≡ left
first_place left width over = ap (λ n. left + n / over) (zero-mul width) ∙ ap (λ n. left + n) (zero-div over) ∙ (omega arith)

pub first-is-left : FirstIsLeft
first-is-left axis = ap (λ n. axis.left + n * axis.width / span axis) (first_kept axis) ∙ first_place axis.left axis.width (span axis)

last_kept : (axis : Axis) → axis.low < axis.high → kept_within axis axis.high - axis.low ≡ span axis
last_kept axis some = omega arith

pub last-is-right : LastIsRight
last-is-right axis some =
    ap (λ n. axis.left + n * axis.width / span axis) (last_kept axis some)
    ∙ ap (λ n. axis.left + n) (div-eq_of_eq-mul_left (span_some axis) (mul_comm (span axis) axis.width))
