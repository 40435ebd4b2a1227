use Rattle.std.proofs.Common.{◌≡◌, map, string_bytes, Global, sym, ap, subst}
use Rattle.log_verdict.specs.Endings.{IsAnswered}
use Rattle.companion.specs.Process.{EndsCall}
use Rattle.companion.specs.Program.{IsAnswer}
use Rattle.companion.proofs.ProcessFacts.{ended_call}
use Rattle.companion.proofs.process.exit_of.Goals as goal

pub returns-clause-answer : goal.returns-clause-answer
returns-clause-answer g c = λ files tells.
    subst (λ status. IsAnswered (IsAnswer (map (string_bytes {Z = Global}) c.args.words.now) files) (g.D.Desk.faults c.args.desk.now) (g.D.Desk.faults c.run-status.new.desk) (g.K.Sink.faults c.args.out.now) (g.K.Sink.faults c.run-status.new.out)
    (g.K.Sink.written c.args.out.now) (g.K.Sink.written c.run-status.new.out) status) (sym c.from.ensures) (c.run-status.ensures.answer files tells)

pub returns-clause-ends : goal.returns-clause-ends
returns-clause-ends g c =
    let w = c.run-status.ensures in
    subst (λ status. EndsCall (map (string_bytes {Z = Global}) c.args.words.now) (g.D.Desk.faults c.args.desk.now) (g.D.Desk.faults c.run-status.new.desk) (g.K.Sink.faults c.args.out.now) (g.K.Sink.faults c.run-status.new.out)
    (g.K.Sink.written c.args.out.now) (g.K.Sink.written c.run-status.new.out) status) (sym c.from.ensures)
    (ended_call (map (string_bytes {Z = Global}) c.args.words.now) (g.D.Desk.left c.args.desk.now) (g.D.Desk.left c.run-status.new.desk) (c.run-status.new.desk ≡ c.args.desk.now) (g.D.Desk.faults c.args.desk.now) (g.D.Desk.faults c.run-status.new.desk)
    (g.K.Sink.faults c.args.out.now) (g.K.Sink.faults c.run-status.new.out) (g.K.Sink.written c.args.out.now) (g.K.Sink.written c.run-status.new.out) c.run-status.result w.answer w.table w.status w.read (λ same. ap g.D.Desk.faults same))
