use Rattle.std.proofs.Common.{◌≡◌, subst, refl, rules}
use Rattle.cluster_setup.specs.Answers.{Refuses}
use Rattle.cluster_setup.proofs.AnsweringFacts.{no_memory}
use Rattle.cluster_setup.proofs.answering.made_text.Goals as goal

pub returns-in_ok-line-in-Err : goal.returns-in_ok-line-in-Err
returns-in_ok-line-in-Err c =
    let policy : c.as_slice-policy.result.now ≡ c.args.given.now.policy = search (rules, c.as_slice-policy.ensures) in
    let files : c.deref.result.now ≡ c.args.given.now.files.items = search (rules, c.deref.ensures.value) in
    let refuses = no_memory (Refuses c.args.time.now c.as_slice-policy.result.now c.deref.result.now c.args.authorize) c.in-Err.refusal (c.in_ok-line-in-Err.ensures.memory refl) c.in-Err.ensures.cause in
    let told = subst (λ fs. Refuses c.args.time.now c.args.given.now.policy fs c.args.authorize c.in-Err.refusal) files
    (subst (λ p. Refuses c.args.time.now p c.deref.result.now c.args.authorize c.in-Err.refusal) policy refuses) in
    (c.in-Err.refusal, told, c.in_ok-line-in-Err.ensures.line)
