-- Whether the things of a log can stand in one list along which neither moments nor revisions fall.
use Rattle.std.specs.Prelude.{◌≡◌, List, map}
use Rattle.std.specs.List.{AllZip, zip}
use Rattle.base_types.specs.declared.kubernetes.revision.Moment.{Moment}
use Rattle.history_model.specs.Histories.{History}
use Rattle.log_moments.specs.Things.{AreThings}
use Rattle.log_moments.specs.declared.answer.LineMoment.{LineMoment}
use Rattle.log_moments.specs.declared.answer.StrictAnswer.{StrictAnswer}
use Rattle.log_moments.specs.declared.answer.StrictAnswer.TheVariants.{Strict, Crossed}
use Rattle.strict_order.specs.Moments.{IsFirstCrossing}
use Rattle.strict_order.specs.Printed.{IsPrinted}
use Rattle.strict_order.specs.Strict.{IsStrict, StandsAt}
use Rattle.strict_order.specs.declared.moments.Moments.{Moments}
use Rattle.strict_order.specs.declared.moments.Moments.TheVariants as settled
use Rattle.strict_order.specs.declared.thing.Thing.{Thing}

abbrev pub line_moment : Thing → Moment → LineMoment
line_moment thing moment = record { line = thing.line; moment = moment }

-- the line of each thing, with its moment
abbrev pub lines_of : List Thing → List Moment → List LineMoment
lines_of things moments = map (λ pair. line_moment pair.0 pair.1) (zip things moments)

-- the answer that moments of the things, or two lines of theirs, come to
abbrev pub answer_for : List Thing → Moments → StrictAnswer
answer_for things (settled.Found moments) = Strict (lines_of things moments)
answer_for things (settled.Crossed first second) = Crossed first second

-- moments at which the things stand in one list, each the first that its thing can have; or, where there is no such list,
-- the first two lines that cross
abbrev pub IsAnswerFor : List Thing → StrictAnswer → Type 0
IsAnswerFor things (Strict lines) = (moments : List Moment) × StandsAt things moments × AllZip (IsPrinted things) things moments × (lines ≡ lines_of things moments)
IsAnswerFor things (Crossed first second) = (IsStrict things → ⊥) × IsFirstCrossing things first second

-- the same of the things of the log
pub record IsStrictAnswer (h : History) (answer : StrictAnswer) : Type 0 where
  pub things : List Thing
  pub are : AreThings h things
  pub answered : IsAnswerFor things answer
