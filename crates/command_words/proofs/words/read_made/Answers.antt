use Rattle.std.proofs.Common.{sym, ◌∙◌, arith}
use Rattle.std.proofs.lemmas.Fmt.{decimal_injective}
use Rattle.command_words.proofs.words.read_made.Goals as goal

pub returns-then-made-gt-MOST_MADE-clause-none : goal.returns-then-made-gt-MOST_MADE-clause-none
returns-then-made-gt-MOST_MADE-clause-none c = λ made small spelled.
    let same = decimal_injective c.in_ok-made.made made c.in_ok-made.ensures.fits (omega (arith, small)) (sym c.in_ok-made.ensures.some ∙ spelled) in
    let above = c.if-made-gt-MOST_MADE.true in
    omega (arith, same, small, above)
