use Rattle.std.proofs.Common.{ap, sym, ◌∙◌}
use Rattle.clouds.specs.Hiding.{AreRevisionsOf}
use Rattle.clouds.specs.Recorded.{revisions_at, revisions_in}
use Rattle.clouds.proofs.Keeping.{AreRevisionsOf-at, clouded_from_reach, clouded_nowhere, other_of, reach_from_clouded}
use Rattle.clouds.proofs.clouds.Clouds.clouded.Goals as goal

pub returns-then-is_empty : goal.returns-then-is_empty
returns-then-is_empty c =
    let none = c.is_empty.ensures.0 c.if-is_empty.true in
    rw (← c.self.view_is) (
      (λ yes. absurd (cc)),
      (λ any. absurd (clouded_nowhere _ _ _ _ c.args.key.now c.args.place c.self.invariant.filed none any)),
    )

pub returns : goal.returns
returns c =
    let all = other_of _ c.is_empty.ensures c.if-is_empty.false c.self.invariant.recorded_all in
    let are : AreRevisionsOf c.args.self.now.revisions c.args.key.now c.revisions_of-revisions.result.now =
    rw (← c.self.view_is) (AreRevisionsOf-at (revisions_at c.self.inside.recorded) _ c.args.key.now c.revisions_of-revisions.result.now all
    (ap revisions_in (sym c.get.ensures.value) ∙ sym c.revisions_of-revisions.ensures.revisions)) in (
      (λ yes. clouded_from_reach _ _ _ _ _ _ are c.latest.ensures (c.reaches.ensures.0 yes)),
      (λ any. c.reaches.ensures.1 (reach_from_clouded _ _ _ _ _ _ are c.latest.ensures any)),
    )
