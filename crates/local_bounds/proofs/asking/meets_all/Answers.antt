use Rattle.std.proofs.Common.{refl, sym, true≢false}
use Rattle.std.proofs.lemmas.Bool.{both_ways}
use Rattle.local_bounds.proofs.Holding.{meets_more, meets_each}
use Rattle.local_bounds.proofs.asking.meets_all.Goals as goal

pub returns-then-not-meets : goal.returns-then-not-meets
returns-then-not-meets c = ((λ e. absurd (true≢false (sym e))), λ m. absurd (both_ways _ c.if-not-meets.true (c.meets.ensures.1 (m c.loop-bound.bound-index _ c.loop-bound-test.true))))

pub loop-bound-preserved : goal.loop-bound-preserved
loop-bound-preserved c = meets_more c.args.choice.now c.args.bounds.now c.loop-bound.bound-index _ c.loop-bound-test.true c.loop-bound.invariant (c.meets.ensures.0 c.if-not-meets.false)

pub returns : goal.returns
returns c = ((λ e. meets_each c.args.choice.now c.args.bounds.now c.loop-bound.bound-index c.loop-bound-test.false c.loop-bound.invariant), λ m. refl)
