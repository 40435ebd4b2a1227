use Rattle.std.proofs.Common.{ap, refl, sym, ◌∙◌}
use Rattle.finding_picture.specs.Segments.{is_on_axis}
use Rattle.finding_picture.proofs.Keeping.{kept, passed}
use Rattle.finding_picture.proofs.segments.own_versions.Goals as goal
use Rattle.finding_picture.proofs.segments.own_versions.Goals.{then-is_on_axis+in_ok-push, else-is_on_axis}

pub loop-version-preserved : goal.loop-version-preserved
loop-version-preserved c =
    elim c.if-is_on_axis.branch [
      | then-is_on_axis+in_ok-push w ↦
          kept (is_on_axis c.args.axis.now c.args.key.now) _ c.loop-version.version-index c.version-item.result _ _ _ c.loop-version-test.true c.version-item.is (sym c.is_on_axis.ensures ∙ w.if-is_on_axis.true)
          (ap (λ v. v.items) w.found-is ∙ w.in_ok-push.ensures.items) refl c.loop-version.invariant
      | else-is_on_axis w ↦
          passed (is_on_axis c.args.axis.now c.args.key.now) _ c.loop-version.version-index c.version-item.result _ _ c.loop-version-test.true c.version-item.is (sym c.is_on_axis.ensures ∙ w.if-is_on_axis.false)
          (ap (λ v. v.items) w.found-is) c.loop-version.invariant
    ]
