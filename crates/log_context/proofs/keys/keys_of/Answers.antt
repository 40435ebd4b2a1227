use Rattle.log_context.proofs.Keying.{keys_are}
use Rattle.log_context.proofs.keys.keys_of.Goals as goal

pub returns : goal.returns
returns c = keys_are c.args.past.now.versions c.args.log.now c.keys.result.now c.new-keys.result _ _ c.in_ok-list.list.items c.in_ok-list.ensures.order c.in_ok-list.ensures.exact
    c.in_ok-add_named.ensures c.in_ok-add_keys.ensures c.keys.ensures.exact c.new-keys.ensures.empty
