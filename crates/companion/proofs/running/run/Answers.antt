use Rattle.std.proofs.Common.{◌≡◌, None, map, string_bytes, Global, inl, refl}
use Rattle.companion_words.specs.Command.{command_asked}
use Rattle.companion.specs.Program.{usage_answer}
use Rattle.companion.proofs.RunFacts.{HasRun, run_answer, run_read, run_status, run_table, usage_read, usage_status}
use Rattle.companion.proofs.running.run.Given.{Over}
use Rattle.companion.proofs.running.run.Goals as goal

pub returns-in-None-clause-answer : goal.returns-in-None-clause-answer
returns-in-None-clause-answer g c = λ files tells. inl (usage_answer, (None, c.in-None.ensures, refl), c.end_with.ensures.ends)

pub returns-in-None-clause-table : goal.returns-in-None-clause-table
returns-in-None-clause-table g c = inl (usage_answer, inl (c.in-None.ensures, refl), c.end_with.ensures.ends)

pub returns-in-None-clause-status : goal.returns-in-None-clause-status
returns-in-None-clause-status g c = usage_status c.in-None.ensures c.end_with.ensures.ends

pub returns-in-None-clause-read : goal.returns-in-None-clause-read
returns-in-None-clause-read g c = usage_read refl c.in-None.ensures

-- words that are a command
ran : (g : Over) (c : goal.After-conclude g)
    → HasRun (map (string_bytes {Z = Global}) c.args.words.now) (command_asked c.in-Some.command) (g.D.Desk.left c.args.desk.now) (g.D.Desk.left c.report_of.new.desk) (c.report_of.new.desk ≡ c.args.desk.now)
    (g.D.Desk.faults c.args.desk.now) (g.D.Desk.faults c.report_of.new.desk) (g.K.Sink.faults c.args.out.now) (g.K.Sink.faults c.conclude.new.out)
    (g.K.Sink.written c.args.out.now) (g.K.Sink.written c.conclude.new.out) c.conclude.result c.report_of.result
ran g c = record {
  spelled = c.in-Some.ensures;
  reported = c.report_of.ensures;
  concluded = c.conclude.ensures;
}

pub returns-in-Some-clause-answer : goal.returns-in-Some-clause-answer
returns-in-Some-clause-answer g c = run_answer (ran g c)

pub returns-in-Some-clause-table : goal.returns-in-Some-clause-table
returns-in-Some-clause-table g c = run_table (ran g c)

pub returns-in-Some-clause-status : goal.returns-in-Some-clause-status
returns-in-Some-clause-status g c = run_status (ran g c)

pub returns-in-Some-clause-read : goal.returns-in-Some-clause-read
returns-in-Some-clause-read g c = run_read (ran g c)
