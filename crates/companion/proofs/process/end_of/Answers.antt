use Rattle.std.specs.Process.{exit_status}
use Rattle.companion.proofs.ProcessFacts.{on_none, on_want, on_words}
use Rattle.companion.proofs.process.end_of.Goals as goal

pub returns-in-Ok-Some : goal.returns-in-Ok-Some
returns-in-Ok-Some g c =
    on_words c.args.words (g.K.Sink.faults c.args.out.now) (g.K.Sink.faults c.end_of_words.new.out) (g.K.Sink.written c.args.out.now) (g.K.Sink.written c.end_of_words.new.out) (exit_status c.end_of_words.result)
    c.in-Ok-Some.field-0 c.in-Ok-Some.words c.deref.result.now c.in-Ok-Some.is c.in-Ok-Some.field-0-is c.deref.ensures.value c.end_of_words.ensures

pub returns-in-Ok-None : goal.returns-in-Ok-None
returns-in-Ok-None g c =
    on_none c.args.words (g.K.Sink.faults c.args.out.now) (g.K.Sink.faults c.end_with.new.out) (g.K.Sink.written c.args.out.now) (g.K.Sink.written c.end_with.new.out) (exit_status c.from.result)
    c.in-Ok-None.field-0 c.end_with.result c.in-Ok-None.is c.in-Ok-None.field-0-is c.from.ensures c.end_with.ensures.ends

pub returns-in-Err : goal.returns-in-Err
returns-in-Err g c = on_want c.args.words (g.K.Sink.faults c.args.out.now) (g.K.Sink.written c.args.out.now) (exit_status c.from-in-Err.result) c.in-Err.field-0 c.in-Err.is c.from-in-Err.ensures
