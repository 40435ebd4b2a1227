use Rattle.std.proofs.Common.{◌∙◌, refl, subst, sym, true≢false}
use Rattle.log_moments.specs.Things.{IsThingOf}
use Rattle.log_moments.specs.Views.{IsFoundThing}
use Rattle.write_groups.specs.Modelled.{event_of}
use Rattle.log_moments.proofs.things.thing_of.Goals as goal

pub returns-then-is_checkpoint : goal.returns-then-is_checkpoint
returns-then-is_checkpoint c = λ h v thing is. true≢false (sym c.if-is_checkpoint.true ∙ c.is_checkpoint.ensures ∙ is.recorded)

pub returns-in_err-numbers : goal.returns-in_err-numbers
returns-in_err-numbers c = λ h v.
    subst (IsFoundThing (IsThingOf h c.args.number (event_of c.args.event.now))) (sym c.from_residual.ensures)
    (λ thing is. c.in_err-numbers.ensures h v (record { least = thing.least; greatest = thing.greatest }) is.numbered)

pub returns : goal.returns
returns c = λ h v.
    let are = c.in_ok-numbers.ensures h v in
    (record { recorded = sym c.is_checkpoint.ensures ∙ c.if-is_checkpoint.false; line = refl; lo = refl; hi = refl; numbered = are.0 }, are.1)
