use Rattle.std.proofs.Common.{sym, ◌∙◌}
use Rattle.audit_policy.proofs.RuleLemmas.{without_targets, with_parts}
use Rattle.audit_policy.proofs.reading.read_rule.Goals as goal

pub returns-in_default-3 : goal.returns-in_default-3
returns-in_default-3 c =
    let leveled = rw c.as_str.ensures.value at c.in-Some-level_named.ensures in
    without_targets c.args.tree.now _ c.in-Some-level_named.level c.in-Some-2.callers c.in-Some.ensures leveled (sym c.in-Some-2.is ∙ c.in_ok-callers.ensures) (sym c.in_default-3.is ∙ c.in_ok-targets.ensures)

pub returns : goal.returns
returns c =
    let leveled = rw c.as_str.ensures.value at c.in-Some-level_named.ensures in
    c.unmixed.ensures
    ∙ with_parts c.args.tree.now _ c.in-Some-level_named.level c.in-Some-2.callers c.in-Some-3.targets c.in-Some-stages_at.omitted c.in-Some.ensures leveled (sym c.in-Some-2.is ∙ c.in_ok-callers.ensures) (sym c.in-Some-3.is ∙ c.in_ok-targets.ensures) c.in-Some-stages_at.ensures
