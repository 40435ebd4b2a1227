use Rattle.std.proofs.Common.{◌≡◌, Ok, rules}
use Rattle.log_verdict.specs.Answers.{verified_answer}
use Rattle.kubepast.proofs.ReportedFacts.{passed_report, passed_stop, passed_want, verify_reported}
use Rattle.kubepast.proofs.reporting.verified.Goals as goal

pub returns-in_err-verified : goal.returns-in_err-verified
returns-in_err-verified g c =
    verify_reported (g.D.Desk.left c.args.desk.now) (g.D.Desk.left c.verify.new.desk) (c.verify.new.desk ≡ c.args.desk.now) (g.D.Desk.faults c.args.desk.now) (g.D.Desk.faults c.verify.new.desk) c.args.setup.now c.args.log.now c.from_residual.result
    c.args.placement.now c.verify.result (passed_stop verified_answer c.verify.result c.in_err-verified.field-0.0 c.from_residual.result c.in_err-verified.was (search rules))
    c.verify.ensures.verified c.verify.ensures.whole c.verify.ensures.reads

pub returns-in_err-verified_report : goal.returns-in_err-verified_report
returns-in_err-verified_report g c =
    verify_reported (g.D.Desk.left c.args.desk.now) (g.D.Desk.left c.verify.new.desk) (c.verify.new.desk ≡ c.args.desk.now) (g.D.Desk.faults c.args.desk.now) (g.D.Desk.faults c.verify.new.desk) c.args.setup.now c.args.log.now c.from_residual-in_err-verified_report.result
    c.args.placement.now c.verify.result (passed_want verified_answer c.verify.result c.in_ok-verified.verified c.from_residual-in_err-verified_report.result c.in_ok-verified.was (search rules))
    c.verify.ensures.verified c.verify.ensures.whole c.verify.ensures.reads

pub returns : goal.returns
returns g c =
    verify_reported (g.D.Desk.left c.args.desk.now) (g.D.Desk.left c.verify.new.desk) (c.verify.new.desk ≡ c.args.desk.now) (g.D.Desk.faults c.args.desk.now) (g.D.Desk.faults c.verify.new.desk) c.args.setup.now c.args.log.now (Ok c.in_ok-verified_report.field-0)
    c.args.placement.now c.verify.result (passed_report verified_answer c.verify.result c.in_ok-verified.verified c.in_ok-verified_report.field-0 c.in_ok-verified.was c.in_ok-verified_report.ensures)
    c.verify.ensures.verified c.verify.ensures.whole c.verify.ensures.reads
