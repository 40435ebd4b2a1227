use Rattle.std.proofs.Common.{ap, refl, sym, ◌∙◌}
use Rattle.finding_picture.specs.Caches.{has_come}
use Rattle.finding_picture.proofs.Keeping.{kept, passed}
use Rattle.finding_picture.proofs.caches.all_come.Goals as goal
use Rattle.finding_picture.proofs.caches.all_come.Goals.{then-has_come+in_ok-push, else-has_come}

pub loop-version-preserved : goal.loop-version-preserved
loop-version-preserved c =
    elim c.if-has_come.branch [
      | then-has_come+in_ok-push w ↦
          kept (has_come c.args.low c.args.high) _ c.loop-version.version-index c.version-item.result _ _ _ c.loop-version-test.true c.version-item.is (sym c.has_come.ensures ∙ w.if-has_come.true)
          (ap (λ v. v.items) w.come-is ∙ w.in_ok-push.ensures.items) refl c.loop-version.invariant
      | else-has_come w ↦
          passed (has_come c.args.low c.args.high) _ c.loop-version.version-index c.version-item.result _ _ c.loop-version-test.true c.version-item.is (sym c.has_come.ensures ∙ w.if-has_come.false)
          (ap (λ v. v.items) w.come-is) c.loop-version.invariant
    ]
