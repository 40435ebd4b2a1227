use Rattle.std.proofs.Common.{◌≡◌, Ok, Err, ◌∙◌, subst, rules}
use Rattle.context_intake.proofs.ReadingFacts.{reads_on}
use Rattle.context_intake.specs.declared.stop.Stop.TheVariants.{ReadFault}
use Rattle.log_verdict.specs.Answering.{IsHistoryFrom}
use Rattle.log_verdict.proofs.AskingFacts.{history_read, history_told}
use Rattle.log_verdict.proofs.asking.ask.Goals as goal

pub returns-in_err-found-clause-reads : goal.returns-in_err-found-clause-reads
returns-in_err-found-clause-reads g c = reads_on c.read_context.result _ (search rules) c.read_context.ensures.reads

pub returns-in_err-answered-clause-reads : goal.returns-in_err-answered-clause-reads
returns-in_err-answered-clause-reads g c = reads_on c.read_context.result _ (search rules) c.read_context.ensures.reads

pub returns-clause-answered : goal.returns-clause-answered
returns-clause-answered g c = λ s l ts tl.
    history_told s l c.args.question.now c.in_ok-found.found c.in_ok-answered.answered (c.in_ok-found.ensures.told s l ts tl)
    (subst (λ t. IsHistoryFrom t c.args.question.now c.in_ok-answered.answered) (c.deref.ensures ∙ c.new-told.ensures) c.in_ok-answered.ensures)

pub returns-clause-whole : goal.returns-clause-whole
returns-clause-whole g c =
    history_read (g.D.Desk.left c.read_context.new.desk c.args.setup.now) (g.D.Desk.left c.read_context.new.desk c.args.log.now) c.args.question.now c.in_ok-found.found c.in_ok-answered.answered c.in_ok-found.ensures.whole
    (subst (λ t. IsHistoryFrom t c.args.question.now c.in_ok-answered.answered) (c.deref.ensures ∙ c.new-told.ensures) c.in_ok-answered.ensures)

pub returns-clause-reads : goal.returns-clause-reads
returns-clause-reads g c = reads_on c.read_context.result _ (λ is. absurd (let no : Ok c.in_ok-answered.answered ≡ Err ReadFault = is in cc)) c.read_context.ensures.reads
