use Rattle.companion.proofs.ReportedFacts.{page_reported, stop_reported}
use Rattle.companion.proofs.reporting.pictured.Goals as goal

pub returns-in-Ok : goal.returns-in-Ok
returns-in-Ok g c =
    let w = c.picture.ensures in
    page_reported (g.D.Desk.left c.args.desk.now) (g.D.Desk.left c.picture.new.desk) _ (g.D.Desk.faults c.args.desk.now) (g.D.Desk.faults c.picture.new.desk)
    c.args.setup.now c.args.log.now c.picture.result c.in-Ok.found c.page_report.result c.in-Ok.is c.page_report.ensures.answer c.page_report.ensures.within w.pictured w.whole w.setup_whole w.reads

pub returns-in-Err : goal.returns-in-Err
returns-in-Err g c =
    let w = c.picture.ensures in
    stop_reported (g.D.Desk.left c.args.desk.now) (g.D.Desk.left c.picture.new.desk) _ (g.D.Desk.faults c.args.desk.now) (g.D.Desk.faults c.picture.new.desk)
    c.args.setup.now c.args.log.now c.picture.result c.in-Err.stop c.in-Err.is w.reads
