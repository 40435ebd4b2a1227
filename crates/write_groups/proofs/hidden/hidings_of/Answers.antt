use Rattle.std.proofs.Common.{◌≡◌, ◌∙◌, sym, Some, None, arith}
use Rattle.write_groups.proofs.Lists.{made_one, made_none}
use Rattle.write_groups.specs.Hiding.{hiding_at}
use Rattle.write_groups.proofs.hidden.hidings_of.Goals as goal
use Rattle.write_groups.proofs.hidden.hidings_of.Goals.{in-Some+in_ok-push, in_default}

pub loop-event-preserved : goal.loop-event-preserved
loop-event-preserved c = elim c.match-branch-2.branch [
  | in-Some+in_ok-push w ↦
      let found : hiding_at c.event-item.result ≡ Some w.in-Some.hiding = sym c.in_ok-hiding.ensures ∙ w.in-Some.is in
      rw w.hidings-is (w.in_ok-push.ensures.items
      ∙ made_one hiding_at c.args.events.now c.loop-event.event-index c.event-item.result w.in-Some.hiding c.loop-event.hidings.items (omega arith) c.event-item.is found c.loop-event.invariant)
  | in_default w ↦
      let found : hiding_at c.event-item.result ≡ None = sym c.in_ok-hiding.ensures ∙ w.in_default.is in
      rw w.hidings-is (made_none hiding_at c.args.events.now c.loop-event.event-index c.event-item.result c.loop-event.hidings.items (omega arith) c.event-item.is found c.loop-event.invariant)
]
