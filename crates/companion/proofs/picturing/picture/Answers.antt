use Rattle.std.proofs.Common.{◌≡◌, Ok, Err, ◌∙◌, subst, rules}
use Rattle.context_intake.proofs.ReadingFacts.{reads_on}
use Rattle.context_intake.specs.declared.stop.Stop.TheVariants.{ReadFault}
use Rattle.log_verdict.specs.Answers.{report_answer}
use Rattle.companion.specs.Picturing.{IsPicturedFrom}
use Rattle.companion.proofs.PicturingFacts.{page_read, pictured_told, setup_read}
use Rattle.companion.proofs.picturing.picture.Goals as goal

pub returns-in_err-found-clause-reads : goal.returns-in_err-found-clause-reads
returns-in_err-found-clause-reads g c = reads_on c.read_context.result _ (search rules) c.read_context.ensures.reads

pub returns-in_err-report-clause-reads : goal.returns-in_err-report-clause-reads
returns-in_err-report-clause-reads g c = reads_on c.read_context.result _ (search rules) c.read_context.ensures.reads

pub returns-clause-pictured : goal.returns-clause-pictured
returns-clause-pictured g c = λ s l ts tl.
    pictured_told s l c.in_ok-found.found (report_answer c.in_ok-report.report) (c.in_ok-found.ensures.told s l ts tl)
    (subst (λ t. IsPicturedFrom t (report_answer c.in_ok-report.report)) (c.deref.ensures ∙ c.new-told.ensures) c.in_ok-report.ensures)

pub returns-clause-whole : goal.returns-clause-whole
returns-clause-whole g c =
    page_read (g.D.Desk.left c.read_context.new.desk c.args.setup.now) (g.D.Desk.left c.read_context.new.desk c.args.log.now) c.in_ok-found.found (report_answer c.in_ok-report.report)
    (subst (λ t. IsPicturedFrom t (report_answer c.in_ok-report.report)) (c.deref.ensures ∙ c.new-told.ensures) c.in_ok-report.ensures) c.in_ok-found.ensures.whole

pub returns-clause-setup_whole : goal.returns-clause-setup_whole
returns-clause-setup_whole g c =
    setup_read (g.D.Desk.left c.read_context.new.desk c.args.setup.now) (g.D.Desk.left c.read_context.new.desk c.args.log.now) c.in_ok-found.found (report_answer c.in_ok-report.report)
    (subst (λ t. IsPicturedFrom t (report_answer c.in_ok-report.report)) (c.deref.ensures ∙ c.new-told.ensures) c.in_ok-report.ensures) c.in_ok-found.ensures.whole

pub returns-clause-reads : goal.returns-clause-reads
returns-clause-reads g c = reads_on c.read_context.result _ (λ is. absurd (let no : Ok c.in_ok-report.report ≡ Err ReadFault = is in cc)) c.read_context.ensures.reads
