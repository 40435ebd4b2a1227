use Rattle.std.proofs.Common.{◌≡◌, Ok, rules}
use Rattle.log_verdict.specs.Answers.{history_answer}
use Rattle.kubepast.proofs.ReportedFacts.{passed_report, passed_stop, passed_want, ask_reported}
use Rattle.kubepast.proofs.reporting.asked.Goals as goal

pub returns-in_err-found : goal.returns-in_err-found
returns-in_err-found g c =
    ask_reported (g.D.Desk.left c.args.desk.now) (g.D.Desk.left c.ask.new.desk) (c.ask.new.desk ≡ c.args.desk.now) (g.D.Desk.faults c.args.desk.now) (g.D.Desk.faults c.ask.new.desk) c.args.setup.now c.args.log.now c.from_residual.result
    c.args.question.now c.ask.result (passed_stop history_answer c.ask.result c.in_err-found.field-0.0 c.from_residual.result c.in_err-found.was (search rules))
    c.ask.ensures.answered c.ask.ensures.whole c.ask.ensures.reads

pub returns-in_err-history_report : goal.returns-in_err-history_report
returns-in_err-history_report g c =
    ask_reported (g.D.Desk.left c.args.desk.now) (g.D.Desk.left c.ask.new.desk) (c.ask.new.desk ≡ c.args.desk.now) (g.D.Desk.faults c.args.desk.now) (g.D.Desk.faults c.ask.new.desk) c.args.setup.now c.args.log.now c.from_residual-in_err-history_report.result
    c.args.question.now c.ask.result (passed_want history_answer c.ask.result c.in_ok-found.found c.from_residual-in_err-history_report.result c.in_ok-found.was (search rules))
    c.ask.ensures.answered c.ask.ensures.whole c.ask.ensures.reads

pub returns : goal.returns
returns g c =
    ask_reported (g.D.Desk.left c.args.desk.now) (g.D.Desk.left c.ask.new.desk) (c.ask.new.desk ≡ c.args.desk.now) (g.D.Desk.faults c.args.desk.now) (g.D.Desk.faults c.ask.new.desk) c.args.setup.now c.args.log.now (Ok c.in_ok-history_report.field-0)
    c.args.question.now c.ask.result (passed_report history_answer c.ask.result c.in_ok-found.found c.in_ok-history_report.field-0 c.in_ok-found.was c.in_ok-history_report.ensures)
    c.ask.ensures.answered c.ask.ensures.whole c.ask.ensures.reads
