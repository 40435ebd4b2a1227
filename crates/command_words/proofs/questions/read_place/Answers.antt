use Rattle.std.proofs.Common.{sym, ◌∙◌, arith}
use Rattle.std.proofs.lemmas.Fmt.{decimal_injective}
use Rattle.command_words.proofs.questions.read_place.Goals as goal

pub returns-then-place-eq0-clause-none : goal.returns-then-place-eq0-clause-none
returns-then-place-eq0-clause-none c = λ place is.
    let same = decimal_injective c.in_ok-place.place place c.in_ok-place.ensures.fits is.number (sym c.in_ok-place.ensures.some ∙ is.spelled) in
    let zero = c.if-place-eq0.true in
    let above = is.above in
    omega (arith, same, zero, above)
