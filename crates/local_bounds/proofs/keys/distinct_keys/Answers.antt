use Rattle.local_bounds.proofs.Keyed.{keys_some, keys_none}
use Rattle.local_bounds.proofs.keys.distinct_keys.Goals as goal

pub returns-clause-some : goal.returns-clause-some
returns-clause-some c = keys_some (λ found. found.items) c.args.items.now c.in_ok-keys.keys.items c.in_ok-keys.ensures c.keys_in_order.result
    c.keys_in_order.ensures.order c.keys_in_order.ensures.exact c.keys_in_order.ensures.distinct

pub returns-clause-none : goal.returns-clause-none
returns-clause-none c = keys_none (λ found. found.items) c.args.items.now c.in_ok-keys.keys.items c.in_ok-keys.ensures c.keys_in_order.result c.keys_in_order.ensures.none
