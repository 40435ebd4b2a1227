use Rattle.std.proofs.Common.{◌<◌, arith, length, sym, ap, ◌∙◌}
use Rattle.label_select.specs.Meeting.{matches}
use Rattle.log_context.proofs.LogLemmas.{labels_tell}
use Rattle.log_context.proofs.context.Context.is_listable.Goals as goal

pub returns : goal.returns
returns c =
    let known = c.self.inside in
    let selector = c.in-Some.selector.now in
    let within : c.args.node.0 < length known.pool.trees = omega (arith, c.if-node-len.false, c.len.ensures.len) in
    let there = rw (← c.self.view_is) at c.in_ok-labels.ensures in
    rw (← c.self.view_is)
    (c.matches.ensures
    ∙ ap (matches selector) (c.as_ref.ensures.value ∙ there)
    ∙ labels_tell known.setup known.events known.pool.trees known.log.selectors c.self.invariant.logged.selectors c.args.event c.args.node.0 selector (sym c.in-Some.ensures.value) within)
