use Rattle.std.proofs.Common.{subst}
use Rattle.std.proofs.lemmas.Result.{IfOk-weaker}
use Rattle.history_model.specs.Words.{word}
use Rattle.write_groups.specs.Modelled.{event_of}
use Rattle.event_claims.specs.Words.{IsSaid}
use Rattle.event_claims.proofs.Faulting.{finding_is}
use Rattle.event_claims.proofs.answer.asking_in.Goals as goal

pub returns : goal.returns
returns g c = IfOk-weaker c.asking_of.result _ _
    (λ asking asks h v known said w.
    let e = event_of c.args.case.event.now in
    let at = subst (λ x. IsSaid h (word h c.args.case.number e) x) c.in-At.is said in
    asks h (record { of_past = record { recorded = v.past; readable = v.readable }; clouds = v.clouds }) v.lists w
    (finding_is h c.args.case.number e c.args.case.fault at known.fault) at)
    c.asking_of.ensures
