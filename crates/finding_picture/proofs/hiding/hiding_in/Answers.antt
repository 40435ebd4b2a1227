use Rattle.std.proofs.Common.{ap, refl, sym, ◌∙◌}
use Rattle.finding_picture.specs.Hiding.{hides}
use Rattle.finding_picture.proofs.Keeping.{kept, passed}
use Rattle.finding_picture.proofs.hiding.hiding_in.Goals as goal
use Rattle.finding_picture.proofs.hiding.hiding_in.Goals.{then-hides+in_ok-push, else-hides}

pub loop-event-preserved : goal.loop-event-preserved
loop-event-preserved c =
    elim c.if-hides.branch [
      | then-hides+in_ok-push w ↦
          kept (hides c.args.key.now) _ c.loop-event.event-index c.event-item.result _ _ _ c.loop-event-test.true c.event-item.is (sym c.hides.ensures ∙ w.if-hides.true)
          (ap (λ v. v.items) w.writes-is ∙ w.in_ok-push.ensures.items) refl c.loop-event.invariant
      | else-hides w ↦
          passed (hides c.args.key.now) _ c.loop-event.event-index c.event-item.result _ _ c.loop-event-test.true c.event-item.is (sym c.hides.ensures ∙ w.if-hides.false)
          (ap (λ v. v.items) w.writes-is) c.loop-event.invariant
    ]
