use Rattle.std.proofs.Common.{◌∙◌, Vec}
use Rattle.std.proofs.lemmas.Result.{IfOk-weaker}
use Rattle.rayon.proofs.ToStd.{slice-AllZip}
use Rattle.base_types.specs.declared.foundation.memory.OutOfMemory.{OutOfMemory}
use Rattle.log_context.specs.Verdicts.{IsVerdict}
use Rattle.log_context.specs.declared.verdicts.Case.{Case}
use Rattle.log_context.specs.declared.verdicts.Verdict.{Verdict}
use Rattle.log_context.proofs.Gathered.{AnswersItem, all_answered, all_said}
use Rattle.log_context.proofs.verdicts.verdicts_of.Goals as goal

pub returns : goal.returns
returns g c =
    let body = g.B.Bodies.body c.args.bodies.now in
    let cases = c.args.cases.now in
    let right = λ (case : Case) (verdict : Verdict). IsVerdict body verdict in
    let chain = rw (c.map.ensures.base, c.map.ensures.f, c.with_min_len.ensures.base) at c.in_ok-gathered.ensures in
    IfOk-weaker c.in_ok-gathered.gathered _ _ (λ all zipped. all_said (IsVerdict body) cases all.items zipped)
    (all_answered OutOfMemory right (λ (all : Vec Verdict _). all.items) cases chain.0 c.in_ok-gathered.gathered
    (slice-AllZip chain.1.0 cases (chain.1.1 ∙ c.par_iter.ensures) (AnswersItem OutOfMemory right) chain.0 chain.1.2) chain.2)
