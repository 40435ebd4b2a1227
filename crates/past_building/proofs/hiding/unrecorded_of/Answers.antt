use Rattle.std.proofs.Common.{◌≡◌, ◌∙◌, sym, Some, None, arith}
use Rattle.write_groups.proofs.Lists.{made_one, made_none}
use Rattle.past_building.specs.Hidden.{unrecorded_at}
use Rattle.past_building.proofs.hiding.unrecorded_of.Goals as goal
use Rattle.past_building.proofs.hiding.unrecorded_of.Goals.{in-Some+in_ok-push, in_default}

pub loop-event-preserved : goal.loop-event-preserved
loop-event-preserved c = λ h times. elim c.match-branch-2.branch [
  | in-Some+in_ok-push w ↦
      let found : unrecorded_at h c.event-item.result ≡ Some w.in-Some.span = sym (c.in_ok-span.ensures h times) ∙ w.in-Some.is in
      rw w.spans-is (w.in_ok-push.ensures.items
      ∙ made_one (unrecorded_at h) c.args.events.now c.loop-event.event-index c.event-item.result w.in-Some.span c.loop-event.spans.items (omega arith) c.event-item.is found (c.loop-event.invariant h times))
  | in_default w ↦
      let found : unrecorded_at h c.event-item.result ≡ None = sym (c.in_ok-span.ensures h times) ∙ w.in_default.is in
      rw w.spans-is (made_none (unrecorded_at h) c.args.events.now c.loop-event.event-index c.event-item.result c.loop-event.spans.items (omega arith) c.event-item.is found (c.loop-event.invariant h times))
]
