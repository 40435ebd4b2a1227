use Rattle.std.proofs.Common.{refl, subst}
use Rattle.std.specs.Prelude.{IfNone, IfSome}
use Rattle.base_types.specs.declared.verdict.claim.Reason.TheVariants.{U14}
use Rattle.history_model.proofs.CheckLaw.{faultless_is}
use Rattle.history_model.specs.Checking.{AreAllowed, IsFirstFault, IsStepFault, IsVerified, Judged, V1, V2, of_decisions, of_lines, of_places, of_policy, of_steps}
use Rattle.serial_machine.proofs.checking.check.Goals as goal
use Rattle.log_context.specs.Histories.{history_of}

pub returns-in-Some-clause-wrong : goal.returns-in-Some-clause-wrong
returns-in-Some-clause-wrong c =
    subst (λ lines. IsFirstFault (history_of c.args.context.now) lines c.in-Some.line V1) c.as_slice-lines.ensures.lines (of_lines refl c.in-Some.ensures.some)

pub returns-in-Some-first_standing-clause-wrong : goal.returns-in-Some-first_standing-clause-wrong
returns-in-Some-first_standing-clause-wrong c =
    subst (λ lines. IsFirstFault (history_of c.args.context.now) lines c.in-Some-first_standing.line (Judged c.in-Some-first_standing.reason)) c.as_slice-lines.ensures.lines
    (of_policy c.in-Some-first_standing.reason refl c.in_default.ensures.none c.in-Some-first_standing.ensures.line c.in-Some-first_standing.ensures.code c.in-Some-first_standing.ensures.least)

pub returns-in-Some-first_misplaced-clause-wrong : goal.returns-in-Some-first_misplaced-clause-wrong
returns-in-Some-first_misplaced-clause-wrong c =
    subst (λ lines. IsFirstFault (history_of c.args.context.now) lines c.in-Some-first_misplaced.line V2) c.as_slice-lines.ensures.lines
    (of_places refl c.in_default.ensures.none c.in_default-first_standing.ensures.none c.in-Some-first_misplaced.ensures.some)

pub returns-in-Some-2-clause-wrong : goal.returns-in-Some-2-clause-wrong
returns-in-Some-2-clause-wrong c =
    let h = history_of c.args.context.now in
    subst (λ lines. IsFirstFault h lines c.in-Some-2.line (Judged c.in-Some-2.reason)) c.as_slice-lines.ensures.lines
    (of_steps c.in-Some-2.reason refl
    (record { alike = c.in_default.ensures.none; standing = c.in_default-first_standing.ensures.none; inside = c.in_default-first_misplaced.ensures.none })
    (subst (λ o. IfSome o (λ fault. IsStepFault h c.as_slice-lines.result.now fault.0 fault.1)) c.in-Some-2.is c.in_ok-line.ensures.some))

pub returns-in-Some-first_undecided-clause-wrong : goal.returns-in-Some-first_undecided-clause-wrong
returns-in-Some-first_undecided-clause-wrong c =
    let h = history_of c.args.context.now in
    subst (λ lines. IsFirstFault h lines c.in-Some-first_undecided.line (Judged U14)) c.as_slice-lines.ensures.lines
    (of_decisions refl
    (record { alike = c.in_default.ensures.none; standing = c.in_default-first_standing.ensures.none; inside = c.in_default-first_misplaced.ensures.none })
    (subst (λ o. IfNone o (AreAllowed h c.as_slice-lines.result.now)) c.in_default-2.is c.in_ok-line.ensures.none)
    c.in-Some-first_undecided.ensures.some)

pub returns-clause-verified : goal.returns-clause-verified
returns-clause-verified c =
    let h = history_of c.args.context.now in
    subst (IsVerified h) c.as_slice-lines.ensures.lines
    (faultless_is h c.in_default.ensures.readable c.as_slice-lines.result.now
    (record {
      fitting = record { alike = c.in_default.ensures.none; standing = c.in_default-first_standing.ensures.none; inside = c.in_default-first_misplaced.ensures.none };
      allowed = subst (λ o. IfNone o (AreAllowed h c.as_slice-lines.result.now)) c.in_default-2.is c.in_ok-line.ensures.none;
      decided = c.in_default-first_undecided.ensures.none;
    }))
