use Rattle.std.proofs.Common.{rules, subst, ◌⊎◌}
use Rattle.std.proofs.lemmas.List.{take_all}
use Rattle.std.specs.BTreeSet.{contains}
use Rattle.std.specs.Prelude.{◌↔◌, IsTrue, IfNone, Any}
use Rattle.base_types.specs.declared.kubernetes.key.ObjectKey.{ObjectKey}
use Rattle.clouds.specs.Kept.{key_order}
use Rattle.log_context.proofs.Keying.{named_next, unnamed_next}
use Rattle.log_context.specs.Keyed.{IsNamedBy}
use Rattle.log_context.proofs.keys.add_named.Goals as goal
use Rattle.log_context.proofs.keys.add_named.Goals.{in-Some+in_ok-_new, in_default}

pub loop-event-preserved : goal.loop-event-preserved
loop-event-preserved c = λ key. elim c.match-branch-2.branch [
  | in-Some+in_ok-_new w ↦
      rw w.keys-is (named_next c.args.keys.now c.loop-event.keys w.insert.new.self c.args.log.now c.loop-event.event-index c.event-item.result key c.loop-event-test.true c.event-item.is
      (c.loop-event.invariant key) w.in-Some.key (search rules) w.in_ok-_new.ensures.updates)
  | in_default w ↦
      rw w.keys-is (unnamed_next c.args.keys.now c.loop-event.keys c.loop-event.keys c.args.log.now c.loop-event.event-index c.event-item.result key c.loop-event-test.true c.event-item.is
      (c.loop-event.invariant key) (let none : (k : ObjectKey) → IsNamedBy k c.event-item.result → ⊥ = subst (λ o. IfNone o ((k : ObjectKey) → IsNamedBy k c.event-item.result → ⊥)) w.in_default.is c.in_ok-key.ensures.none in none key))
]

pub returns : goal.returns
returns c = λ key. subst (λ l. IsTrue (contains key_order c.loop-event.keys key) ↔ (IsTrue (contains key_order c.args.keys.now key) ⊎ Any (IsNamedBy key) l))
    (take_all c.loop-event.event-index c.args.log.now c.loop-event-test.false) (c.loop-event.invariant key)
