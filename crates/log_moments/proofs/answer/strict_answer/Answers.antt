use Rattle.std.proofs.Common.{◌∙◌, ap, subst, sym}
use Rattle.std.proofs.lemmas.Result.{IfOk-weaker}
use Rattle.log_moments.proofs.Settling.{strict_is}
use Rattle.log_moments.specs.Answers.{answer_for}
use Rattle.log_moments.specs.Things.{AreThings}
use Rattle.log_context.specs.Histories.{history_of}
use Rattle.log_moments.proofs.answer.strict_answer.Goals as goal

pub returns : goal.returns
returns c =
    let h = history_of c.args.context.now in
    let things = c.as_slice.result.now in
    let moments = c.in_ok-moments.moments in
    let are = subst (AreThings h) (sym c.as_slice.ensures) c.in_ok-things.ensures.things in
    IfOk-weaker c.answer_for.result _ _
    (λ answer is. strict_is h things moments answer are c.in_ok-moments.ensures.settled c.in_ok-moments.ensures.strict
    (is ∙ ap (λ l. answer_for l moments) (c.as_slice-2.ensures ∙ sym c.as_slice.ensures))) c.answer_for.ensures
