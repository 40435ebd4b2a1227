use Rattle.std.proofs.Common.{subst}
use Rattle.local_bounds.specs.Places.{IsLeastRight}
use Rattle.write_groups.specs.Modelled.{event_of}
use Rattle.event_claims.proofs.Faulting.{finding_is}
use Rattle.event_claims.proofs.Lining.{at_placed}
use Rattle.event_claims.proofs.line.least_place.Goals as goal

pub returns-in-Some : goal.returns-in-Some
returns-in-Some g c = λ h v known window at chosen.
    let e = event_of c.args.case.event.now in
    at_placed h c.args.choice.now c.args.case.number e c.in-Some.place at
    (subst (λ found. IsLeastRight h c.args.choice.now c.args.case.number e found) c.in-Some.is
    (c.in_ok-place.ensures h (record { of_past = record { recorded = v.past; readable = v.readable }; clouds = v.clouds }) v.lists window
    (finding_is h c.args.case.number e c.args.case.fault at known.fault) at chosen))

pub returns-in-None : goal.returns-in-None
returns-in-None g c = λ h v known window at chosen holds.
    let e = event_of c.args.case.event.now in
    let place = holds at in
    (subst (λ found. IsLeastRight h c.args.choice.now c.args.case.number e found) c.in-None.is
    (c.in_ok-place.ensures h (record { of_past = record { recorded = v.past; readable = v.readable }; clouds = v.clouds }) v.lists window
    (finding_is h c.args.case.number e c.args.case.fault at known.fault) at chosen))
    place.0 place.1 place.2
