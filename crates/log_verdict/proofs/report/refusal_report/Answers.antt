use Rattle.std.proofs.Common.{string_bytes, sym, ◌∙◌, ap}
use Rattle.log_verdict.specs.Answers.{refusal_answer, report_answer}
use Rattle.audit_event.specs.Rules.{rank}
use Rattle.log_verdict.proofs.ReportFacts.{malformed_answer}
use Rattle.log_verdict.proofs.report.refusal_report.Goals as goal

pub returns-in_ok-text-in-MalformedLog : goal.returns-in_ok-text-in-MalformedLog
returns-in_ok-text-in-MalformedLog c =
    malformed_answer (report_answer c.reported-in-MalformedLog.result) (string_bytes c.in_ok-text-in-MalformedLog.text) c.in-MalformedLog.line
    c.number-number-in-MalformedLog.result (rank c.in-MalformedLog.code)
    c.reported-in-MalformedLog.ensures c.in_ok-text-in-MalformedLog.ensures.ok c.number-number-in-MalformedLog.ensures
    ∙ ap refusal_answer (sym c.in-MalformedLog.is)
