use Rattle.std.proofs.Common.{inl, sym, ◌∙◌}
use Rattle.cluster_setup.specs.Answers.{IsRefused}
use Rattle.cluster_setup.proofs.Causes.{or_memory}
use Rattle.cluster_setup.proofs.making.setup_of.Goals as goal

pub returns-in-Some-clause-cause : goal.returns-in-Some-clause-cause
returns-in-Some-clause-cause c =
    or_memory (IsRefused c.args.time.now c.args.policy.now c.args.trees.now c.args.authorize) c.in-Some.refusal (inl (sym c.in-Ok.ensures ∙ c.in-Some.is))
