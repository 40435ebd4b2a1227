use Rattle.std.proofs.Common.{sym, ◌∙◌}
use Rattle.audit_policy.proofs.RuleLemmas.{rules_step}
use Rattle.audit_policy.proofs.reading.read_rules.Goals as goal

pub loop-i-preserved : goal.loop-i-preserved
loop-i-preserved c =
    rw c.in_ok-push.ensures.ok
    (c.loop-i.invariant
    ∙ rules_step c.args.trees.now c.loop-i.i c.loop-i.rules c.in-Some.rule c.index-trees-i.result c.loop-i-test.true c.index-trees-i.is (sym c.in_ok-rule.ensures ∙ c.in-Some.is))
