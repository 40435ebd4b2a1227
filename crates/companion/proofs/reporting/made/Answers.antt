use Rattle.std.proofs.Common.{Err, map, string_bytes, Global, ap}
use Rattle.edge_io.specs.declared.whole.WholeStop.{WholeStop}
use Rattle.companion.proofs.ReportedFacts.{setup_reported, setup_stopped}
use Rattle.companion.proofs.reporting.made.Goals as goal

pub returns-in-Ok : goal.returns-in-Ok
returns-in-Ok g c =
    let w = c.in-Ok.ensures in
    setup_reported (g.D.Desk.left c.args.desk.now) (g.D.Desk.left c.make_named.new.desk) _ (g.D.Desk.faults c.args.desk.now) (g.D.Desk.faults c.make_named.new.desk)
    c.args.authorize c.args.time.now c.args.policy.now (map (string_bytes {Z = Global}) c.args.files.now)
    c.in-Ok.found c.made_report.result c.made_report.ensures.answer c.made_report.ensures.within w.answered w.whole w.taken w.others

pub returns-in-Err : goal.returns-in-Err
returns-in-Err g c =
    let w = c.in-Err.ensures in
    setup_stopped (g.D.Desk.left c.args.desk.now) (g.D.Desk.left c.make_named.new.desk) _ (g.D.Desk.faults c.args.desk.now) (g.D.Desk.faults c.make_named.new.desk)
    c.args.authorize c.args.time.now c.args.policy.now (map (string_bytes {Z = Global}) c.args.files.now)
    c.in-Err.stop c.stop_report.result c.stop_report.ensures w.answered (λ is. w.fault (ap (λ (s : WholeStop). Err s) is)) w.taken w.others
