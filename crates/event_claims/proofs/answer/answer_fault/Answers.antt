use Rattle.std.proofs.Common.{ap, sym, subst, ◌∙◌}
use Rattle.history_model.specs.Right.{answer_code}
use Rattle.local_bounds.specs.Asked.{IsAskingOf}
use Rattle.event_claims.proofs.Answering.{free_holds, bounds_hold, answer_right, answer_wrong}
use Rattle.event_claims.proofs.answer.answer_fault.Goals as goal

pub returns-in-Free : goal.returns-in-Free
returns-in-Free c = λ h number event r e a. answer_right h r number event (free_holds h r number event (subst (λ x. IsAskingOf h number event x) c.in-Free.is a))

pub returns-in-Under : goal.returns-in-Under
returns-in-Under c = λ h number event r e a. answer_right h r number event (bounds_hold h r number event c.in-Under.field-0 (subst (λ x. IsAskingOf h number event x) c.in-Under.is a))

pub returns-in-Never : goal.returns-in-Never
returns-in-Never c = λ h number event r e a.
    answer_wrong h r number event c.reason_of.result (c.reason_of.ensures ∙ ap answer_code (sym e)) (subst (λ x. IsAskingOf h number event x) c.in-Never.is a)
