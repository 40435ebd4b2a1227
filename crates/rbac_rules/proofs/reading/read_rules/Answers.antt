use Rattle.std.proofs.Common.{sym, ◌∙◌}
use Rattle.rbac_rules.proofs.Rules.{rules_step}
use Rattle.rbac_rules.proofs.reading.read_rules.Goals as goal

pub loop-tree-preserved : goal.loop-tree-preserved
loop-tree-preserved c =
    rw c.in_ok-push.ensures.ok
    (c.loop-tree.invariant
    ∙ rules_step c.args.trees.now c.loop-tree.tree-index c.loop-tree.rules c.in-Some.rule c.tree-item.result c.loop-tree-test.true c.tree-item.is (sym c.in_ok-rule.ensures ∙ c.in-Some.is))
