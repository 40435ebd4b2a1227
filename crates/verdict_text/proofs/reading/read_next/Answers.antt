use Rattle.std.proofs.Common.{◌<◌, length, arith, sym, ◌∙◌}
use Rattle.std.specs.Prelude.{All}
use Rattle.verdict_text.proofs.PlacedFacts.{placed_agree, shown-placed, utf8-shown}
use Rattle.verdict_text.specs.Placed.{placed_text}
use Rattle.verdict_text.proofs.reading.read_next.Goals as goal
use Rattle.verdict_text.proofs.reading.read_next.Goals.{else-lines-count-via-then-lines-count+else-rises_to, else-lines-count-via-else-lines-count}

pub returns-in_err-as_text-clause-none : goal.returns-in_err-as_text-clause-none
returns-in_err-as_text-clause-none c = rw c.from_residual.ensures (λ placed next.
    c.in_err-as_text.ensures.none (rw next.spelled (utf8-shown (placed_text placed) (shown-placed placed next.fits))))

pub returns-else-lines-count-clause-none : goal.returns-else-lines-count-clause-none
returns-else-lines-count-clause-none c = λ placed next.
    let same = placed_agree placed c.in_ok-placed.placed next.fits c.in_ok-placed.ensures.fits (sym next.spelled ∙ sym c.in_ok-as_text.ensures.some ∙ c.in_ok-placed.ensures.some) in
    let all : All (λ earlier. earlier.line < c.in_ok-placed.placed.line) c.as_slice-lines.result.now = rw (c.as_slice-lines.ensures.lines, ← same) next.rises in
    let room : length c.as_slice-lines.result.now < c.args.count = rw c.as_slice-lines.ensures.lines next.room in
    elim c.else-lines-count.branch [
      | else-lines-count-via-then-lines-count+else-rises_to w ↦ let rises = w.rises_to.ensures.1 all in cc
      | else-lines-count-via-else-lines-count w ↦ omega arith
    ]
