use Rattle.history_model.specs.Local.{IsFixedBy}
use Rattle.history_model.specs.Words.{word}
use Rattle.write_groups.specs.Modelled.{event_of}
use Rattle.event_claims.specs.Standing.{IsOfPolicy, HasPolicyCode, HasWordCode}
use Rattle.event_claims.proofs.Judging.{both_are}
use Rattle.event_claims.proofs.claim.fixed_fault.Goals as goal

pub returns : goal.returns
returns g c = λ h v known said.
    let e = event_of c.args.case.event.now in
    both_are (IsOfPolicy e) (IsFixedBy h e (word h c.args.case.number e)) (HasPolicyCode e) (HasWordCode h e (word h c.args.case.number e))
    c.policy_fault.result c.word_fault-by_word.result c.lesser.result c.lesser.ensures
    c.policy_fault.ensures
    (c.word_fault-by_word.ensures h c.args.case.number (record { recorded = v.past; readable = v.readable }) v.clouds known.here known.fault said)
