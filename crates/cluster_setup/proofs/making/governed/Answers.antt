use Rattle.std.proofs.Common.{inl, inr, refl}
use Rattle.std.proofs.lemmas.Result.{IfOk-weaker, IfErr-weaker}
use Rattle.cluster_setup.specs.Answers.{IsUnread, Refuses}
use Rattle.cluster_setup.proofs.Causes.{weaker}
use Rattle.cluster_setup.proofs.making.governed.Goals as goal

pub returns-in-Some-clause-made : goal.returns-in-Some-clause-made
returns-in-Some-clause-made c =
    let is = rw c.in-Some.is at c.in-Ok.ensures.some in
    IfOk-weaker c.read_out-made.result _ _ (λ text made. record { timed = c.requires; given = c.in-Some.tree; governed = is; made = made }) c.read_out-made.ensures.made

pub returns-in-Some-clause-cause : goal.returns-in-Some-clause-cause
returns-in-Some-clause-cause c =
    let is = rw c.in-Some.is at c.in-Ok.ensures.some in
    IfErr-weaker c.read_out-made.result _ _
    (weaker (Refuses c.args.time.now c.args.policy.now c.args.files.now c.args.authorize) (IsUnread c.args.time.now c.in-Some.tree c.args.files.now c.args.authorize)
    (λ refusal cause. inr (inr (record { timed = c.requires; given = c.in-Some.tree; governed = is; cause = cause }))))
    c.read_out-made.ensures.cause

pub returns-in-None-clause-cause : goal.returns-in-None-clause-cause
returns-in-None-clause-cause c =
    let none = rw c.in-None.is at c.in-Ok.ensures.none in
    inr (inl (refl, c.requires, none))
