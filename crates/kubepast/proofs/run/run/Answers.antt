use Rattle.std.proofs.Common.{◌≡◌, None, map, string_bytes, Global, inl, inr, refl, subst}
use Rattle.command_words.specs.Command.{IsRead, Judge, command_asked}
use Rattle.kubepast.specs.Program.{usage_answer}
use Rattle.kubepast.proofs.RunFacts.{HasRun, keeps_same, run_answer, run_printed, run_read, run_status, run_table, unread_read, unread_status, usage_read, usage_status}
use Rattle.kubepast.proofs.run.run.Given.{Over}
use Rattle.kubepast.proofs.run.run.Goals as goal

-- words that are no command
pub returns-in-Ok-None-clause-answer : goal.returns-in-Ok-None-clause-answer
returns-in-Ok-None-clause-answer g c = λ files tells. inl (usage_answer, (None, subst (IsRead (map (string_bytes {Z = Global}) c.args.words.now)) c.in-Ok-None.field-0-is c.in-Ok-None.ensures.read, refl), c.end_with.ensures.ends)

pub returns-in-Ok-None-clause-table : goal.returns-in-Ok-None-clause-table
returns-in-Ok-None-clause-table g c = inl (usage_answer, inl (subst (IsRead (map (string_bytes {Z = Global}) c.args.words.now)) c.in-Ok-None.field-0-is c.in-Ok-None.ensures.read, refl), c.end_with.ensures.ends)

pub returns-in-Ok-None-clause-status : goal.returns-in-Ok-None-clause-status
returns-in-Ok-None-clause-status g c = usage_status (subst (IsRead (map (string_bytes {Z = Global}) c.args.words.now)) c.in-Ok-None.field-0-is c.in-Ok-None.ensures.read) c.end_with.ensures.ends

pub returns-in-Ok-None-clause-read : goal.returns-in-Ok-None-clause-read
returns-in-Ok-None-clause-read g c = usage_read refl (subst (IsRead (map (string_bytes {Z = Global}) c.args.words.now)) c.in-Ok-None.field-0-is c.in-Ok-None.ensures.read)

pub returns-in-Ok-None-clause-printed : goal.returns-in-Ok-None-clause-printed
returns-in-Ok-None-clause-printed g c = λ setup log asks is. absurd (subst (IsRead (map (string_bytes {Z = Global}) c.args.words.now)) c.in-Ok-None.field-0-is c.in-Ok-None.ensures.read (Judge setup log) asks)

pub returns-in-Ok-None-clause-statements : goal.returns-in-Ok-None-clause-statements
returns-in-Ok-None-clause-statements g c = c.statement_law.ensures

-- no memory for the words
pub returns-in-Err-clause-answer : goal.returns-in-Err-clause-answer
returns-in-Err-clause-answer g c = λ files tells. inr (inr (refl, keeps_same (g.K.Sink.written c.args.out.now)))

pub returns-in-Err-clause-table : goal.returns-in-Err-clause-table
returns-in-Err-clause-table g c = inr (inr (refl, keeps_same (g.K.Sink.written c.args.out.now)))

pub returns-in-Err-clause-status : goal.returns-in-Err-clause-status
returns-in-Err-clause-status g c = unread_status c.in-Err.ensures.memory

pub returns-in-Err-clause-read : goal.returns-in-Err-clause-read
returns-in-Err-clause-read g c = unread_read refl

pub returns-in-Err-clause-statements : goal.returns-in-Err-clause-statements
returns-in-Err-clause-statements g c = c.statement_law.ensures

-- words that are one
ran : (g : Over) (c : goal.After-conclude g)
    → HasRun (map (string_bytes {Z = Global}) c.args.words.now) (command_asked c.in-Ok-Some.command) (g.D.Desk.left c.args.desk.now) (g.D.Desk.left c.report_of.new.desk) (c.report_of.new.desk ≡ c.args.desk.now)
    (g.D.Desk.faults c.args.desk.now) (g.D.Desk.faults c.report_of.new.desk) (g.K.Sink.faults c.args.out.now) (g.K.Sink.faults c.conclude.new.out)
    (g.K.Sink.written c.args.out.now) (g.K.Sink.written c.conclude.new.out) c.conclude.result c.report_of.result
ran g c = record {
  spelled = subst (IsRead (map (string_bytes {Z = Global}) c.args.words.now)) c.in-Ok-Some.field-0-is c.in-Ok-Some.ensures.read;
  reported = c.report_of.ensures;
  concluded = c.conclude.ensures;
}

pub returns-in-Ok-Some-clause-answer : goal.returns-in-Ok-Some-clause-answer
returns-in-Ok-Some-clause-answer g c = run_answer (ran g c)

pub returns-in-Ok-Some-clause-table : goal.returns-in-Ok-Some-clause-table
returns-in-Ok-Some-clause-table g c = run_table (ran g c)

pub returns-in-Ok-Some-clause-status : goal.returns-in-Ok-Some-clause-status
returns-in-Ok-Some-clause-status g c = run_status (ran g c)

pub returns-in-Ok-Some-clause-read : goal.returns-in-Ok-Some-clause-read
returns-in-Ok-Some-clause-read g c = run_read (ran g c)

pub returns-in-Ok-Some-clause-printed : goal.returns-in-Ok-Some-clause-printed
returns-in-Ok-Some-clause-printed g c = run_printed (ran g c)

pub returns-in-Ok-Some-clause-statements : goal.returns-in-Ok-Some-clause-statements
returns-in-Ok-Some-clause-statements g c = c.statement_law.ensures
