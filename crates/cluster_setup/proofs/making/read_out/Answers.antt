use Rattle.std.proofs.Common.{◌≡◌, ℕ, inl, inr, rules}
use Rattle.std.proofs.lemmas.Result.{IfOk-weaker, IfErr-weaker}
use Rattle.cluster_setup.specs.declared.fault.FileFault.TheVariants.{Json}
use Rattle.cluster_setup.specs.declared.fault.SetupRefusal.TheVariants.{File}
use Rattle.cluster_setup.specs.Answers.{IsRefused, IsUnread, OrMemory}
use Rattle.cluster_setup.specs.Refusing.{AreTrees, IsFirstBroken}
use Rattle.cluster_setup.proofs.Causes.{weaker}
use Rattle.cluster_setup.proofs.making.read_out.Goals as goal

pub returns-in-Ok-clause-made : goal.returns-in-Ok-clause-made
returns-in-Ok-clause-made c =
    let shown : AreTrees c.args.files.now c.as_slice.result.now = search (rules, c.in-Ok.ensures.read) in
    IfOk-weaker c.setup_of.result _ _ (λ text made. record { trees = c.as_slice.result.now; read = shown; made = made }) c.setup_of.ensures.made

pub returns-in-Ok-clause-cause : goal.returns-in-Ok-clause-cause
returns-in-Ok-clause-cause c =
    let shown : AreTrees c.args.files.now c.as_slice.result.now = search (rules, c.in-Ok.ensures.read) in
    IfErr-weaker c.setup_of.result (OrMemory (IsRefused c.args.time.now c.args.policy.now c.as_slice.result.now c.args.authorize)) (OrMemory (IsUnread c.args.time.now c.args.policy.now c.args.files.now c.args.authorize))
    (weaker (IsUnread c.args.time.now c.args.policy.now c.args.files.now c.args.authorize) (IsRefused c.args.time.now c.args.policy.now c.as_slice.result.now c.args.authorize)
    (λ refusal refused. inr (c.as_slice.result.now, shown, refused)))
    c.setup_of.ensures.cause

pub returns-in-Err-clause-cause : goal.returns-in-Err-clause-cause
returns-in-Err-clause-cause c =
    weaker (IsUnread c.args.time.now c.args.policy.now c.args.files.now c.args.authorize)
    (λ refusal. (number : ℕ) × IsFirstBroken c.args.files.now number × (refusal ≡ File number Json))
    (λ refusal broken. inl broken) c.in-Err.refusal c.in-Err.ensures.cause
