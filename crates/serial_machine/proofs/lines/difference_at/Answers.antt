use Rattle.std.proofs.Common.{ℕ, ◌∙◌, sym, ap, true≢false}
use Rattle.std.specs.Prelude.{min}
use Rattle.serial_machine.proofs.lines.difference_at.Goals as goal
use Rattle.serial_machine.specs.Lines.{elsewhere, worded}

pub returns-then-line-at-clause-some : goal.returns-then-line-at-clause-some
returns-then-line-at-clause-some c = λ event known. elsewhere c.in-Some.line.now (sym c.in-Some.ensures) (λ e. c.if-line-at.true (e ∙ sym (c.line_of-at.ensures event known)))
    (c.min.ensures ∙ ap (λ (n : ℕ). min n c.in-Some.line.now.line) (c.line_of-at.ensures event known))

pub returns-clause-some : goal.returns-clause-some
returns-clause-some c = λ event known. worded c.in-Some.line.now (sym c.in-Some.ensures) (c.if-line-at.false ∙ c.line_of-at.ensures event known)
    (λ words. true≢false (sym ((c.has_words.ensures event known).1 words) ∙ c.if-has_words.false)) (c.line_of-at.ensures event known)
