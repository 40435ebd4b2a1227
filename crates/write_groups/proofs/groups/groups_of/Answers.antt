use Rattle.std.proofs.lemmas.Result.{IfOk-weaker}
use Rattle.write_groups.proofs.Belonging.{groups_found, groups_write}
use Rattle.write_groups.proofs.groups.groups_of.Goals as goal

pub returns-clause-groups : goal.returns-clause-groups
returns-clause-groups c =
    IfOk-weaker c.group_each.result _ _ (λ groups f. groups_found c.args.events.now c.args.start c.args.order.now c.in_ok-made.made groups c.in_ok-made.ensures f) c.group_each.ensures

pub returns-clause-members : goal.returns-clause-members
returns-clause-members c =
    IfOk-weaker c.group_each.result _ _ (λ groups f. groups_write c.args.events.now c.args.start c.args.order.now groups (f c.args.start c.args.order.now c.in_ok-made.ensures)) c.group_each.ensures
