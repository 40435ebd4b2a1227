use Rattle.std.proofs.Common.{◌≡◌, Ok, rules}
use Rattle.command_words.specs.Command.{Judge}
use Rattle.log_verdict.specs.Answers.{judged_answer, report_answer}
use Rattle.kubepast.specs.Reported.{PrintsPlacement}
use Rattle.kubepast.proofs.ReportedFacts.{of_made, passed_report, passed_stop, passed_want, judge_reported}
use Rattle.kubepast.proofs.reporting.judged.Goals as goal

pub returns-in_err-judged : goal.returns-in_err-judged
returns-in_err-judged g c =
    judge_reported (g.D.Desk.left c.args.desk.now) (g.D.Desk.left c.judge.new.desk) (c.judge.new.desk ≡ c.args.desk.now) (g.D.Desk.faults c.args.desk.now) (g.D.Desk.faults c.judge.new.desk) c.args.setup.now c.args.log.now c.from_residual.result
    c.judge.result (passed_stop judged_answer c.judge.result c.in_err-judged.field-0.0 c.from_residual.result c.in_err-judged.was (search rules))
    c.judge.ensures.judged c.judge.ensures.whole c.judge.ensures.reads (search rules)

pub returns-in_err-report : goal.returns-in_err-report
returns-in_err-report g c =
    judge_reported (g.D.Desk.left c.args.desk.now) (g.D.Desk.left c.judge.new.desk) (c.judge.new.desk ≡ c.args.desk.now) (g.D.Desk.faults c.args.desk.now) (g.D.Desk.faults c.judge.new.desk) c.args.setup.now c.args.log.now c.from_residual-in_err-report.result
    c.judge.result (passed_want judged_answer c.judge.result c.in_ok-judged.judged c.from_residual-in_err-report.result c.in_ok-judged.was (search rules))
    c.judge.ensures.judged c.judge.ensures.whole c.judge.ensures.reads (search rules)

pub returns : goal.returns
returns g c =
    judge_reported (g.D.Desk.left c.args.desk.now) (g.D.Desk.left c.judge.new.desk) (c.judge.new.desk ≡ c.args.desk.now) (g.D.Desk.faults c.args.desk.now) (g.D.Desk.faults c.judge.new.desk) c.args.setup.now c.args.log.now (Ok c.in_ok-report.field-0)
    c.judge.result (passed_report judged_answer c.judge.result c.in_ok-judged.judged c.in_ok-report.field-0 c.in_ok-judged.was (of_made (λ report. report_answer report ≡ judged_answer c.in_ok-judged.judged) c.judged_report-report.result c.in_ok-report.field-0 c.in_ok-report.was c.judged_report-report.ensures.report))
    c.judge.ensures.judged c.judge.ensures.whole c.judge.ensures.reads (of_made (PrintsPlacement (Judge c.args.setup.now c.args.log.now)) c.judged_report-report.result c.in_ok-report.field-0 c.in_ok-report.was c.judged_report-report.ensures.printed)
