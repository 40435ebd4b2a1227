use Rattle.std.proofs.Common.{Bool, rules}
use Rattle.serde_json.specs.Data.{Data}
use Rattle.borrowed_json.specs.View.{view}
use Rattle.audit_event.specs.Events.{IsCauseFrom}
use Rattle.audit_event.proofs.RuleLemmas.{later_cause, recording_kept, request_kept}
use Rattle.audit_event.proofs.reading.read_fields.Goals as goal

pub returns-in_err-request-clause-cause : goal.returns-in_err-request-clause-cause
returns-in_err-request-clause-cause c =
    let value = view c.args.value.now in
    let found = c.in_ok-recording in
    let kept = recording_kept value found.recording found.ensures.recording in
    let cause : IsCauseFrom 3 value c.in_err-request.field-0.0 = later_cause 3 7 value c.in_err-request.field-0.0 kept c.in_err-request.ensures.cause in
    search (rules, cause)

pub returns-in_err-told-clause-cause : goal.returns-in_err-told-clause-cause
returns-in_err-told-clause-cause c =
    let value = view c.args.value.now in
    let found = c.in_ok-recording in
    let request = c.in_ok-request in
    let recorded = recording_kept value found.recording found.ensures.recording in
    let kept = λ (heading : Data → Bool). request_kept value request.request request.ensures.request heading (recorded heading) in
    let cause : IsCauseFrom 3 value c.in_err-told.field-0.0 = later_cause 3 10 value c.in_err-told.field-0.0 kept c.in_err-told.ensures.cause in
    search (rules, cause)
