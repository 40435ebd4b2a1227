use Rattle.std.proofs.Common.{sym, ◌∙◌}
use Rattle.verdict_text.proofs.NumberTexts.{numbers_agree}
use Rattle.verdict_text.proofs.PlacedFacts.{answers_agree}
use Rattle.verdict_text.proofs.placed.read_placed.Goals as goal

pub returns-in_err-answer-clause-none : goal.returns-in_err-answer-clause-none
returns-in_err-answer-clause-none c = rw c.from_residual-in_err-answer.ensures (λ placed fits e.
    let small = c.in_ok-line.ensures.fits in
    let behind = (numbers_agree c.in_ok-line.line placed.line c.in_ok-line.rest.now _ small fits.line (sym c.in_ok-line.ensures.some ∙ e)).1 in
    c.in_err-answer.ensures.none placed.answer _ fits.answer behind)

pub returns-in_err-decision-clause-none : goal.returns-in_err-decision-clause-none
returns-in_err-decision-clause-none c = rw c.from_residual-in_err-decision.ensures (λ placed fits e.
    let small = c.in_ok-line.ensures.fits in
    let behind = (numbers_agree c.in_ok-line.line placed.line c.in_ok-line.rest.now _ small fits.line (sym c.in_ok-line.ensures.some ∙ e)).1 in
    let behind-2 = (answers_agree c.in_ok-answer.answer placed.answer c.in_ok-answer.rest.now _ c.in_ok-answer.ensures.fits fits.answer (sym c.in_ok-answer.ensures.some ∙ behind)).1 in
    c.in_err-decision.ensures.none placed.decision fits.decision behind-2)
