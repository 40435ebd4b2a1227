use Rattle.std.proofs.Common.{inr}
use Rattle.companion.proofs.ProcessFacts.{ended_words, keeps_same}
use Rattle.companion.proofs.process.end_of_words.Goals as goal

pub returns-in-Ok : goal.returns-in-Ok
returns-in-Ok g c = ended_words c.exit_of.ensures.ends

pub returns-in-Err : goal.returns-in-Err
returns-in-Err g c = inr (c.from.ensures, keeps_same (g.K.Sink.written c.args.out.now))
