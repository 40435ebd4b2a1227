use Rattle.std.proofs.Common.{◌≡◌, Some, None, inl, inr, refl, sym, ap, ◌∙◌}
use Rattle.std.specs.Prelude.{option_map}
use Rattle.std.proofs.lemmas.Result.{IfOk-weaker, IfErr-weaker}
use Rattle.cluster_setup.specs.Answers.{IsBlamed, IsRefused}
use Rattle.cluster_setup.specs.Files.{start_word}
use Rattle.cluster_setup.proofs.Causes.{weaker}
use Rattle.cluster_setup.proofs.making.begun.Goals as goal

pub returns-in-None-clause-cause : goal.returns-in-None-clause-cause
returns-in-None-clause-cause c =
    let none : start_word c.args.trees.now ≡ None = sym c.start_word.ensures ∙ ap (option_map (λ text. text.now)) c.in-None.is in
    inr (inl (c.requires.sound, none, refl))

pub returns-in-Some-clause-made : goal.returns-in-Some-clause-made
returns-in-Some-clause-made c =
    let some : start_word c.args.trees.now ≡ Some c.in-Some.revision.now = sym c.start_word.ensures ∙ ap (option_map (λ text. text.now)) c.in-Some.is in
    IfOk-weaker c.judged.result _ _ (λ text made. record { sound = c.requires.sound; revision = c.in-Some.revision.now; start = some; made = made }) c.judged.ensures.made

pub returns-in-Some-clause-cause : goal.returns-in-Some-clause-cause
returns-in-Some-clause-cause c =
    let some : start_word c.args.trees.now ≡ Some c.in-Some.revision.now = sym c.start_word.ensures ∙ ap (option_map (λ text. text.now)) c.in-Some.is in
    IfErr-weaker c.judged.result _ _
    (weaker (IsRefused c.args.time.now c.args.policy.now c.args.trees.now c.args.authorize) (IsBlamed c.in-Some.revision.now c.args.time.now c.args.policy.now c.args.trees.now c.args.authorize)
    (λ refusal blamed. inr (inr (record { sound = c.requires.sound; revision = c.in-Some.revision.now; start = some; blamed = blamed }))))
    c.judged.ensures.cause
