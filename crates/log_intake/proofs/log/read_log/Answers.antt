use Rattle.std.proofs.Common.{Ok, sym, subst}
use Rattle.audit_event.specs.Keeping.{AreKept}
use Rattle.log_intake.specs.Taking.{ReadsLog}
use Rattle.log_intake.proofs.AnswerFacts.{reads_nothing, stop_answered}
use Rattle.log_intake.proofs.log.read_log.Goals as goal

pub returns-in_err-seen-clause-reads : goal.returns-in_err-seen-clause-reads
returns-in_err-seen-clause-reads g c =
    let left = g.D.Desk.left c.args.desk.now c.args.name.now in
    let faults = g.D.Desk.faults c.args.desk.now in
    stop_answered c.from_residual.result _ (ReadsLog left left faults faults) c.from_residual.ensures.1 (reads_nothing _ _)

pub returns-clause-reads : goal.returns-clause-reads
returns-clause-reads g c =
    let same = c.finish.ensures.events in
    subst (λ events. ReadsLog (g.D.Desk.left c.args.desk.now c.args.name.now) (g.D.Desk.left c.read_batches.new.desk c.args.name.now) (g.D.Desk.faults c.args.desk.now) (g.D.Desk.faults c.read_batches.new.desk) (Ok events)) (sym same)
    (c.in_ok-read_batches.ensures.whole (subst AreKept same c.finish.ensures.kept))
