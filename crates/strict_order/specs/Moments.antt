-- What ordering comes to: a moment for each thing, or the first two that cross.
use Rattle.std.specs.Prelude.{◌≡◌, ℕ, List, All, Any, Contains}
use Rattle.std.specs.List.{AllZip}
use Rattle.strict_order.specs.declared.moments.Moments.{Moments}
use Rattle.strict_order.specs.declared.moments.Moments.TheVariants.{Found, Crossed}
use Rattle.strict_order.specs.declared.thing.Thing.{Thing}
use Rattle.strict_order.specs.Printed.{IsPrinted}
use Rattle.strict_order.specs.Strict.{StandsAt}
use Rattle.strict_order.specs.Things.{Crosses, IsJudgedNoLater}

-- the first thing that some thing crosses, and the first that crosses it, in the order of judgement
pub record IsFirstCrossing (things : List Thing) (first second : ℕ) : Type 0 where
  pub a : Thing
  pub b : Thing
  pub a_stands : Contains things a
  pub b_stands : Contains things b
  pub a_line : first ≡ a.line
  pub b_line : second ≡ b.line
  pub crosses : Crosses a b
  pub b_first : All (λ d. Any (λ c. Crosses c d) things → IsJudgedNoLater b d) things
  pub a_first : All (λ c. Crosses c b → IsJudgedNoLater a c) things

-- moments at which the things stand, each the first that its thing can have, or the first that cross
abbrev pub IsSettled : List Thing → Moments → Type 0
IsSettled things (Found moments) = StandsAt things moments × AllZip (IsPrinted things) things moments
IsSettled things (Crossed first second) = IsFirstCrossing things first second

abbrev pub IsFound : Moments → Type 0
IsFound (Found moments) = Unit {0}
IsFound (Crossed first second) = ⊥
