use Rattle.std.proofs.Common.{◌≡◌, ◌∙◌, map, rules}
use Rattle.std.specs.Map.Iter.{deref}
use Rattle.std.proofs.lemmas.Map.Iter.{iter_end}
use Rattle.log_context.proofs.Keying.{listed_order, listed_exact}
use Rattle.log_context.proofs.keys.listed.Goals as goal

pub returns-clause-order : goal.returns-clause-order
returns-clause-order c =
    let all : map deref c.loop-key.yielded ≡ c.args.keys.now.keys = search (rules, iter_end) in
    listed_order c.args.keys.now c.loop-key.list.items (c.loop-key.invariant ∙ all) c.iter-key-items.ensures.ordered

pub returns-clause-exact : goal.returns-clause-exact
returns-clause-exact c =
    let all : map deref c.loop-key.yielded ≡ c.args.keys.now.keys = search (rules, iter_end) in
    listed_exact c.args.keys.now c.loop-key.list.items (c.loop-key.invariant ∙ all)
