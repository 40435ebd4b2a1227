use Rattle.std.proofs.Common.{◌∙◌, ap, arith}
use Rattle.log_picture.proofs.Stepping.{passed_by, taken_more}
use Rattle.log_picture.proofs.spreading.spread.Goals as goal
use Rattle.log_picture.proofs.spreading.spread.Goals.{then-position-step-eq0+in_ok-push, else-position-step-eq0}

pub loop-position-preserved : goal.loop-position-preserved
loop-position-preserved g c =
    elim c.if-position-step-eq0.branch [
      | then-position-step-eq0+in_ok-push w ↦
          ap (λ v. v.items) w.taken-is ∙ w.in_ok-push.ensures.items
          ∙ taken_more c.step_for-step.result c.loop-position.position c.args.items.now c.loop-position.taken.items w.index-items-position.result
          (omega (arith, c.loop-position-test.true)) w.index-items-position.is w.if-position-step-eq0.true c.loop-position.invariant
      | else-position-step-eq0 w ↦
          ap (λ v. v.items) w.taken-is
          ∙ passed_by c.step_for-step.result c.loop-position.position c.args.items.now c.loop-position.taken.items
          (omega (arith, c.loop-position-test.true)) (omega (arith, w.if-position-step-eq0.false)) c.loop-position.invariant
    ]
