use Rattle.std.proofs.Common.{Err, ap, refl}
use Rattle.edge_io.specs.declared.whole.WholeStop.{WholeStop}
use Rattle.companion.specs.declared.report.ReportText.TheVariants.{Sifted}
use Rattle.companion.specs.declared.report.ExitStatus.TheVariants.{Done}
use Rattle.companion.proofs.ReportedFacts.{sift_reported, sift_stopped}
use Rattle.companion.proofs.reporting.sifted.Goals as goal

pub returns-in-Ok : goal.returns-in-Ok
returns-in-Ok g c =
    let w = c.in-Ok.ensures in
    sift_reported (g.D.Desk.left c.args.desk.now) (g.D.Desk.left c.sift_named.new.desk) _ (g.D.Desk.faults c.args.desk.now) (g.D.Desk.faults c.sift_named.new.desk) c.args.left c.args.log.now
    c.in-Ok.text (record { status = Done; body = Sifted c.in-Ok.text }) refl w.within w.answered w.whole w.taken w.others

pub returns-in-Err : goal.returns-in-Err
returns-in-Err g c =
    let w = c.in-Err.ensures in
    sift_stopped (g.D.Desk.left c.args.desk.now) (g.D.Desk.left c.sift_named.new.desk) _ (g.D.Desk.faults c.args.desk.now) (g.D.Desk.faults c.sift_named.new.desk) c.args.left c.args.log.now
    c.in-Err.stop c.stop_report.result c.stop_report.ensures w.answered (λ is. w.fault (ap (λ (s : WholeStop). Err s) is)) w.taken w.others
