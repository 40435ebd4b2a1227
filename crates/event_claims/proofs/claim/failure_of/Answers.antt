use Rattle.std.proofs.Common.{refl}
use Rattle.write_groups.specs.Modelled.{event_of}
use Rattle.event_claims.proofs.Failing.{all_judged}
use Rattle.event_claims.proofs.claim.failure_of.Goals as goal

pub returns : goal.returns
returns g c = λ h v known said w a.
    let e = event_of c.args.case.event.now in
    all_judged h c.args.case.number e
    c.fixed_fault-fixed.result c.finding_fault-finding.result c.answer_fault-answer.result c.decision_fault-decision.result c.lesser-standing.result c.lesser-answered.result c.lesser.result
    c.lesser-standing.ensures c.lesser-answered.ensures c.lesser.ensures
    (c.fixed_fault-fixed.ensures h v known said)
    (c.finding_fault-finding.ensures h c.args.case.number v.clouds w known.fault said)
    (c.answer_fault-answer.ensures h c.args.case.number e v.readable refl a)
    (c.decision_fault-decision.ensures h c.args.case.number e (c.decided_of.ensures h v known.here))
