use Rattle.verdict_text.proofs.PlacedFacts.{shown-count, utf8-shown}
use Rattle.verdict_text.specs.Outcome.{count_text}
use Rattle.verdict_text.proofs.reading.read_count.Goals as goal

pub returns-in_err-as_text-clause-none : goal.returns-in_err-as_text-clause-none
returns-in_err-as_text-clause-none c = rw c.from_residual.ensures (λ count small e.
    c.in_err-as_text.ensures.none (rw e (utf8-shown (count_text count) (shown-count count small))))
