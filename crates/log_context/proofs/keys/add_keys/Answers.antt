use Rattle.std.proofs.Common.{rules, ◌≡◌, subst, true}
use Rattle.std.specs.BTreeSet.{Updates}
use Rattle.clouds.specs.Kept.{key_order}
use Rattle.log_context.proofs.Keying.{key_next}
use Rattle.log_context.proofs.keys.add_keys.Goals as goal

pub loop-key-preserved : goal.loop-key-preserved
loop-key-preserved c = λ key.
    let same : c.in_ok-clone.field-0 ≡ c.key-item.result = search rules in
    let updates : Updates key_order c.loop-key.keys c.insert.new.self c.key-item.result true = subst (λ k. Updates key_order c.loop-key.keys c.insert.new.self k true) same c.in_ok-_new.ensures.updates in
    key_next c.args.keys.now c.loop-key.keys c.insert.new.self c.args.more.now c.loop-key.key-index c.key-item.result key c.loop-key-test.true c.key-item.is updates (c.loop-key.invariant key)
