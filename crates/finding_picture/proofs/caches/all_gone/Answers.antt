use Rattle.std.proofs.Common.{ap, refl, sym, ◌∙◌}
use Rattle.finding_picture.specs.Caches.{may_have_gone}
use Rattle.finding_picture.proofs.Keeping.{kept, passed}
use Rattle.finding_picture.proofs.caches.all_gone.Goals as goal
use Rattle.finding_picture.proofs.caches.all_gone.Goals.{then-may_have_gone+in_ok-push, else-may_have_gone}

pub loop-removal-preserved : goal.loop-removal-preserved
loop-removal-preserved c =
    elim c.if-may_have_gone.branch [
      | then-may_have_gone+in_ok-push w ↦
          kept (may_have_gone c.args.low c.args.high) _ c.loop-removal.removal-index c.removal-item.result _ _ _ c.loop-removal-test.true c.removal-item.is (sym c.may_have_gone.ensures ∙ w.if-may_have_gone.true)
          (ap (λ v. v.items) w.gone-is ∙ w.in_ok-push.ensures.items) refl c.loop-removal.invariant
      | else-may_have_gone w ↦
          passed (may_have_gone c.args.low c.args.high) _ c.loop-removal.removal-index c.removal-item.result _ _ c.loop-removal-test.true c.removal-item.is (sym c.may_have_gone.ensures ∙ w.if-may_have_gone.false)
          (ap (λ v. v.items) w.gone-is) c.loop-removal.invariant
    ]
