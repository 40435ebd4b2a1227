use Rattle.std.specs.BTreeMap.{values}
use Rattle.write_groups.proofs.Grouping.{groups_are}
use Rattle.write_groups.proofs.Lists.{made_all}
use Rattle.write_groups.specs.Grouped.{group_in}
use Rattle.write_groups.proofs.groups.group_each.Goals as goal

pub returns : goal.returns
returns c = λ start order gathered.
    groups_are start c.args.events.now order c.args.made.now c.values-numbers-items.ensures.ordered gathered c.loop-numbers.groups
    (made_all (group_in c.args.events.now) c.loop-numbers.groups c.loop-numbers.numbers-iterator (values c.args.made.now) c.in-None.ensures.steps.0 c.loop-numbers.invariant)
