use Rattle.std.proofs.Common.{Ok, Err, sym, ap}
use Rattle.context_intake.proofs.ReadingFacts.{failed_log, failed_setup, read_both, read_log, read_setup, reads_log, reads_setup, told_events, told_log, told_setup}
use Rattle.context_intake.proofs.reading.read_by_pieces.Goals as goal

pub returns-in-Err-clause-told : goal.returns-in-Err-clause-told
returns-in-Err-clause-told g c = told_setup (g.D.Desk.left c.args.desk.now) c.args.setup.now c.args.log.now c.refused_setup.result c.in-Err.stop c.in-Err.ensures.reads.answers c.refused_setup.ensures.refused

pub returns-in-Err-clause-whole : goal.returns-in-Err-clause-whole
returns-in-Err-clause-whole g c =
    read_setup (g.D.Desk.left c.read_setup_named.new.desk c.args.setup.now) (g.D.Desk.left c.read_setup_named.new.desk c.args.log.now) c.refused_setup.result c.in-Err.stop c.in-Err.ensures.reads.whole c.refused_setup.ensures.refused

pub returns-in-Err-clause-reads : goal.returns-in-Err-clause-reads
returns-in-Err-clause-reads g c =
    reads_setup c.args.setup.now c.args.log.now c.requires.apart _ _ (g.D.Desk.left c.args.desk.now) (g.D.Desk.left c.read_setup_named.new.desk) (g.D.Desk.faults c.args.desk.now) (g.D.Desk.faults c.read_setup_named.new.desk) (Err c.in-Err.stop)
    c.in-Err.ensures.reads c.in-Err.ensures.others
    (failed_setup c.refused_setup.result c.in-Err.stop c.refused_setup.ensures.refused c.refused_setup.ensures.fault) (λ is. ap Err (c.refused_setup.ensures.fault is))

pub returns-in-Ok-read_log-clause-told : goal.returns-in-Ok-read_log-clause-told
returns-in-Ok-read_log-clause-told g c =
    told_events (g.D.Desk.left c.args.desk.now) c.args.setup.now c.args.log.now c.told_by.result c.in-Ok.field-0.setup (g.D.Desk.left c.read_setup_named.new.desk c.args.log.now) c.in-Ok-read_log.events c.in-Ok.ensures.reads.answers
    (c.in-Ok.ensures.others c.args.log.now (λ e. c.requires.apart (sym e))) c.in-Ok-read_log.ensures.reads.answers c.told_by.ensures.found

pub returns-in-Ok-read_log-clause-whole : goal.returns-in-Ok-read_log-clause-whole
returns-in-Ok-read_log-clause-whole g c =
    read_both (g.D.Desk.left c.read_log.new.desk c.args.setup.now) (g.D.Desk.left c.read_log.new.desk c.args.log.now) c.told_by.result c.in-Ok.field-0.setup c.in-Ok-read_log.events
    (g.D.Desk.left c.read_setup_named.new.desk c.args.setup.now) (c.in-Ok-read_log.ensures.others c.args.setup.now c.requires.apart) (c.in-Ok.ensures.reads.whole tt) c.in-Ok-read_log.ensures.reads.whole c.told_by.ensures.found

pub returns-in-Ok-read_log-clause-reads : goal.returns-in-Ok-read_log-clause-reads
returns-in-Ok-read_log-clause-reads g c =
    reads_log c.args.setup.now c.args.log.now c.requires.apart _ _ (g.D.Desk.left c.args.desk.now) (g.D.Desk.left c.read_setup_named.new.desk) (g.D.Desk.left c.read_log.new.desk)
    (g.D.Desk.faults c.args.desk.now) (g.D.Desk.faults c.read_setup_named.new.desk) (g.D.Desk.faults c.read_log.new.desk) c.in-Ok.field-0.setup (Ok c.in-Ok-read_log.events)
    c.in-Ok.ensures.reads c.in-Ok.ensures.others c.in-Ok-read_log.ensures.reads c.in-Ok-read_log.ensures.others (λ is. tt) (λ is. absurd (c.told_by.ensures.no_fault is))

pub returns-in-Err-read_log-clause-told : goal.returns-in-Err-read_log-clause-told
returns-in-Err-read_log-clause-told g c =
    told_log (g.D.Desk.left c.args.desk.now) c.args.setup.now c.args.log.now c.refused_log.result c.in-Ok.field-0.setup (g.D.Desk.left c.read_setup_named.new.desk c.args.log.now) c.in-Err-read_log.stop c.in-Ok.ensures.reads.answers
    (c.in-Ok.ensures.others c.args.log.now (λ e. c.requires.apart (sym e))) c.in-Err-read_log.ensures.reads.answers c.refused_log.ensures.refused

pub returns-in-Err-read_log-clause-whole : goal.returns-in-Err-read_log-clause-whole
returns-in-Err-read_log-clause-whole g c =
    read_log (g.D.Desk.left c.read_log.new.desk c.args.setup.now) (g.D.Desk.left c.read_log.new.desk c.args.log.now) c.refused_log.result c.in-Err-read_log.stop
    (g.D.Desk.left c.read_setup_named.new.desk c.args.setup.now) (c.in-Err-read_log.ensures.others c.args.setup.now c.requires.apart) (c.in-Ok.ensures.reads.whole tt) c.refused_log.ensures.refused

pub returns-in-Err-read_log-clause-reads : goal.returns-in-Err-read_log-clause-reads
returns-in-Err-read_log-clause-reads g c =
    reads_log c.args.setup.now c.args.log.now c.requires.apart _ _ (g.D.Desk.left c.args.desk.now) (g.D.Desk.left c.read_setup_named.new.desk) (g.D.Desk.left c.read_log.new.desk)
    (g.D.Desk.faults c.args.desk.now) (g.D.Desk.faults c.read_setup_named.new.desk) (g.D.Desk.faults c.read_log.new.desk) c.in-Ok.field-0.setup (Err c.in-Err-read_log.stop)
    c.in-Ok.ensures.reads c.in-Ok.ensures.others c.in-Err-read_log.ensures.reads c.in-Err-read_log.ensures.others
    (failed_log c.refused_log.result c.in-Err-read_log.stop c.refused_log.ensures.refused c.refused_log.ensures.fault) (λ is. ap Err (c.refused_log.ensures.fault is))
