-- The answer that settled moments come to.
use Rattle.std.proofs.Common.{◌≡◌, List, refl, subst, sym}
use Rattle.std.specs.Prelude.{◌↔◌}
use Rattle.history_model.specs.Histories.{History}
use Rattle.log_moments.specs.Answers.{IsAnswerFor, IsStrictAnswer, answer_for}
use Rattle.log_moments.specs.Things.{AreThings}
use Rattle.log_moments.specs.declared.answer.StrictAnswer.{StrictAnswer}
use Rattle.strict_order.specs.Moments.{IsFound, IsSettled}
use Rattle.strict_order.specs.Strict.{IsStrict}
use Rattle.strict_order.specs.declared.moments.Moments.{Moments}
use Rattle.strict_order.specs.declared.moments.Moments.TheVariants.{Found, Crossed}
use Rattle.strict_order.specs.declared.thing.Thing.{Thing}

answered : (things : List Thing) (moments : Moments) → IsSettled things moments → IsFound moments ↔ IsStrict things → IsAnswerFor things (answer_for things moments)
answered things (Found moments) settled exact = (moments, settled.0, settled.1, refl)
answered things (Crossed first second) settled exact = (λ strict. exact.1 strict, settled)

pub strict_is : (h : History) (things : List Thing) (moments : Moments) (answer : StrictAnswer) → AreThings h things → IsSettled things moments → IsFound moments ↔ IsStrict things
    → answer ≡ answer_for things moments → IsStrictAnswer h answer
strict_is h things moments answer are settled exact is = record {
  things = things;
  are = are;
  answered = subst (IsAnswerFor things) (sym is) (answered things moments settled exact);
}
