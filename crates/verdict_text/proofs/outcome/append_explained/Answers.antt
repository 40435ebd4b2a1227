use Rattle.std.proofs.Common.{arith}
use Rattle.std.proofs.lemmas.Grind.{common_steps}
use Rattle.std.proofs.lemmas.List.Elements.{All-more}
use Rattle.verdict_text.specs.Placed.{FitsPlaced}
use Rattle.verdict_text.proofs.outcome.append_explained.Goals as goal

pub loop-placed-preserved : goal.loop-placed-preserved
loop-placed-preserved c = (grind (arith, common_steps), All-more FitsPlaced c.args.lines.now c.loop-placed.placed-index _ c.loop-placed-test.true c.loop-placed.invariant.1 c.in_ok-append_placed.ensures.fits)
