use Rattle.verdict_text.proofs.CutFacts.{no_cut}
use Rattle.std.specs.Prelude.{decimal}
use Rattle.verdict_text.proofs.NumberTexts.{number_cut}
use Rattle.verdict_text.proofs.words.read_spaced_number.Goals as goal

pub returns-in_err-word-clause-none : goal.returns-in_err-word-clause-none
returns-in_err-word-clause-none c = rw c.from_residual.ensures (λ n rest small e. no_cut 32 c.args.text.now (decimal n) rest c.in_err-word.ensures.none e)

pub returns-in_err-read_number-clause-none : goal.returns-in_err-read_number-clause-none
returns-in_err-read_number-clause-none c = rw c.from_residual-in_err-read_number.ensures (λ n rest small e.
    c.in_err-read_number.ensures.none n small (number_cut c.args.text.now c.in_ok-word.word.now c.in_ok-word.rest.now n rest c.in_ok-word.ensures.some c.in_ok-word.ensures.whole small e).0)
