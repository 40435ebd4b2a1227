use Rattle.std.proofs.Common.{sym, subst, Some, None, true≢false, ◌∙◌}
use Rattle.base_types.specs.declared.verdict.claim.Reason.TheVariants.{U7}
use Rattle.history_model.specs.Local.{IsFixedBy}
use Rattle.history_model.specs.Words.{Removes}
use Rattle.object_past.specs.Modelled.{recorded}
use Rattle.write_groups.specs.Modelled.{event_of}
use Rattle.event_claims.specs.Standing.{HasWordCode}
use Rattle.event_claims.specs.Verdicts.{IsVerdict}
use Rattle.event_claims.proofs.Removing.{is_there, is_recorded, removal_right, removal_wrong}
use Rattle.event_claims.proofs.standing.removal_fault.Goals as goal

pub returns-in_default : goal.returns-in_default
returns-in_default c = λ h removal p k at. absurd (is_there c.args.known.past.now h p c.args.position removal at c.removals.result.now c.removals.ensures.removals c.in_default.ensures)

pub returns-then-meets_preconditions : goal.returns-then-meets_preconditions
returns-then-meets_preconditions c = λ h removal p k at.
    subst (λ r. IsVerdict (IsFixedBy h (event_of c.args.event.now) (Removes r)) (HasWordCode h (event_of c.args.event.now) (Removes r)) None)
    (sym (is_recorded c.args.known.past.now h p c.args.position removal at c.removals.result.now c.removals.ensures.removals c.in-Some.removal.now c.in-Some.ensures))
    (removal_right h (event_of c.args.event.now) (recorded c.in-Some.removal.now) ((c.meets_preconditions.ensures h k).0 c.if-meets_preconditions.true))

pub returns : goal.returns
returns c = λ h removal p k at.
    subst (λ r. IsVerdict (IsFixedBy h (event_of c.args.event.now) (Removes r)) (HasWordCode h (event_of c.args.event.now) (Removes r)) (Some U7))
    (sym (is_recorded c.args.known.past.now h p c.args.position removal at c.removals.result.now c.removals.ensures.removals c.in-Some.removal.now c.in-Some.ensures))
    (removal_wrong h (event_of c.args.event.now) (recorded c.in-Some.removal.now) (λ met. true≢false (sym ((c.meets_preconditions.ensures h k).1 met) ∙ c.if-meets_preconditions.false)))
