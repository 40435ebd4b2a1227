use Rattle.std.proofs.Common.{sym, subst}
use Rattle.history_model.specs.Local.{IsFixedBy}
use Rattle.history_model.specs.Words.{word}
use Rattle.write_groups.specs.Modelled.{event_of}
use Rattle.event_claims.specs.Standing.{HasWordCode}
use Rattle.event_claims.specs.Verdicts.{IsVerdict}
use Rattle.event_claims.specs.Words.{IsSaid}
use Rattle.event_claims.proofs.Faulting.{making_judged}
use Rattle.event_claims.proofs.standing.word_fault.Goals as goal

pub returns-in-Makes : goal.returns-in-Makes
returns-in-Makes c = λ h number p k known f said.
    let w = subst (λ x. IsSaid h (word h number (event_of c.args.event.now)) x) c.in-Makes.is said in
    making_judged h number (event_of c.args.event.now) w.0 c.args.fault p.readable known w.1 f

pub returns-in-Removes : goal.returns-in-Removes
returns-in-Removes c = λ h number p k known f said.
    let w = subst (λ x. IsSaid h (word h number (event_of c.args.event.now)) x) c.in-Removes.is said in
    subst (λ x. IsVerdict (IsFixedBy h (event_of c.args.event.now) x) (HasWordCode h (event_of c.args.event.now) x) c.removal_fault.result) (sym w.1)
    (c.removal_fault.ensures h w.0 p k w.2)
