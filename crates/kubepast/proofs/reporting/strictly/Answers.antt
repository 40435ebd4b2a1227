use Rattle.std.proofs.Common.{◌≡◌, Ok, rules}
use Rattle.log_verdict.specs.Answers.{report_answer, strictly_answer}
use Rattle.kubepast.proofs.ReportedFacts.{of_made, passed_report, passed_stop, passed_want, strictly_reported}
use Rattle.kubepast.proofs.reporting.strictly.Goals as goal

pub returns-in_err-found : goal.returns-in_err-found
returns-in_err-found g c =
    strictly_reported (g.D.Desk.left c.args.desk.now) (g.D.Desk.left c.judge_strictly.new.desk) (c.judge_strictly.new.desk ≡ c.args.desk.now) (g.D.Desk.faults c.args.desk.now) (g.D.Desk.faults c.judge_strictly.new.desk) c.args.setup.now c.args.log.now c.from_residual.result
    c.judge_strictly.result (passed_stop strictly_answer c.judge_strictly.result c.in_err-found.field-0.0 c.from_residual.result c.in_err-found.was (search rules))
    c.judge_strictly.ensures.judged c.judge_strictly.ensures.whole c.judge_strictly.ensures.reads

pub returns-in_err-report : goal.returns-in_err-report
returns-in_err-report g c =
    strictly_reported (g.D.Desk.left c.args.desk.now) (g.D.Desk.left c.judge_strictly.new.desk) (c.judge_strictly.new.desk ≡ c.args.desk.now) (g.D.Desk.faults c.args.desk.now) (g.D.Desk.faults c.judge_strictly.new.desk) c.args.setup.now c.args.log.now c.from_residual-in_err-report.result
    c.judge_strictly.result (passed_want strictly_answer c.judge_strictly.result c.in_ok-found.found c.from_residual-in_err-report.result c.in_ok-found.was (search rules))
    c.judge_strictly.ensures.judged c.judge_strictly.ensures.whole c.judge_strictly.ensures.reads

pub returns : goal.returns
returns g c =
    strictly_reported (g.D.Desk.left c.args.desk.now) (g.D.Desk.left c.judge_strictly.new.desk) (c.judge_strictly.new.desk ≡ c.args.desk.now) (g.D.Desk.faults c.args.desk.now) (g.D.Desk.faults c.judge_strictly.new.desk) c.args.setup.now c.args.log.now (Ok c.in_ok-report.field-0)
    c.judge_strictly.result (passed_report strictly_answer c.judge_strictly.result c.in_ok-found.found c.in_ok-report.field-0 c.in_ok-found.was (of_made (λ report. report_answer report ≡ strictly_answer c.in_ok-found.found) c.strictly_report-report.result c.in_ok-report.field-0 c.in_ok-report.was c.strictly_report-report.ensures))
    c.judge_strictly.ensures.judged c.judge_strictly.ensures.whole c.judge_strictly.ensures.reads
