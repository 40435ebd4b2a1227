use Rattle.std.proofs.Common.{subst}
use Rattle.history_model.specs.Words.{word}
use Rattle.write_groups.specs.Modelled.{event_of}
use Rattle.event_claims.specs.Words.{IsSaid}
use Rattle.event_claims.proofs.Lining.{removed_placed}
use Rattle.event_claims.proofs.line.placed_answer.Goals as goal

pub returns-in-Removes : goal.returns-in-Removes
returns-in-Removes g c = λ h v known window said chosen.
    let w = subst (λ x. IsSaid h (word h c.args.case.number (event_of c.args.case.event.now)) x) c.in-Removes.is said in
    removed_placed h c.args.choice.now c.args.case.number (event_of c.args.case.event.now) w.0 c.in-Removes.position c.place_at.result w.1 w.2 chosen c.place_at.ensures
