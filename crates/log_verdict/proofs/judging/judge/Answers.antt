use Rattle.std.proofs.Common.{◌≡◌, Ok, Err, ◌∙◌, subst, rules}
use Rattle.context_intake.proofs.ReadingFacts.{reads_on}
use Rattle.context_intake.specs.declared.stop.Stop.TheVariants.{ReadFault}
use Rattle.log_verdict.specs.Judging.{IsJudgedFrom}
use Rattle.log_verdict.proofs.JudgingFacts.{judged_read, judged_told}
use Rattle.log_verdict.proofs.judging.judge.Goals as goal

pub returns-in_err-found-clause-reads : goal.returns-in_err-found-clause-reads
returns-in_err-found-clause-reads g c = reads_on c.read_context.result _ (search rules) c.read_context.ensures.reads

pub returns-in_err-judged-clause-reads : goal.returns-in_err-judged-clause-reads
returns-in_err-judged-clause-reads g c = reads_on c.read_context.result _ (search rules) c.read_context.ensures.reads

pub returns-clause-judged : goal.returns-clause-judged
returns-clause-judged g c = λ s l ts tl.
    judged_told s l c.in_ok-found.found c.in_ok-judged.judged (c.in_ok-found.ensures.told s l ts tl) (subst (λ t. IsJudgedFrom t c.in_ok-judged.judged) (c.deref.ensures ∙ c.new-told.ensures) c.in_ok-judged.ensures)

pub returns-clause-whole : goal.returns-clause-whole
returns-clause-whole g c =
    judged_read (g.D.Desk.left c.read_context.new.desk c.args.setup.now) (g.D.Desk.left c.read_context.new.desk c.args.log.now) c.in_ok-found.found c.in_ok-judged.judged c.in_ok-found.ensures.whole
    (subst (λ t. IsJudgedFrom t c.in_ok-judged.judged) (c.deref.ensures ∙ c.new-told.ensures) c.in_ok-judged.ensures)

pub returns-clause-reads : goal.returns-clause-reads
returns-clause-reads g c = reads_on c.read_context.result _ (λ is. absurd (let no : Ok c.in_ok-judged.judged ≡ Err ReadFault = is in cc)) c.read_context.ensures.reads
