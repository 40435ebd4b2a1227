use Rattle.std.proofs.Common.{ap, refl, sym, ◌∙◌}
use Rattle.finding_picture.specs.Hiding.{is_unrecorded}
use Rattle.finding_picture.proofs.Keeping.{kept, passed}
use Rattle.finding_picture.proofs.hiding.unrecorded_in.Goals as goal
use Rattle.finding_picture.proofs.hiding.unrecorded_in.Goals.{then-is_unrecorded+in_ok-push, else-is_unrecorded}

pub loop-event-preserved : goal.loop-event-preserved
loop-event-preserved c =
    elim c.if-is_unrecorded.branch [
      | then-is_unrecorded+in_ok-push w ↦
          kept is_unrecorded _ c.loop-event.event-index c.event-item.result _ _ _ c.loop-event-test.true c.event-item.is (sym c.is_unrecorded.ensures ∙ w.if-is_unrecorded.true)
          (ap (λ v. v.items) w.writes-is ∙ w.in_ok-push.ensures.items) refl c.loop-event.invariant
      | else-is_unrecorded w ↦
          passed is_unrecorded _ c.loop-event.event-index c.event-item.result _ _ c.loop-event-test.true c.event-item.is (sym c.is_unrecorded.ensures ∙ w.if-is_unrecorded.false)
          (ap (λ v. v.items) w.writes-is) c.loop-event.invariant
    ]
