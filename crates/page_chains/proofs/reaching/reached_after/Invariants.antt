use Rattle.page_chains.proofs.StepLemmas.{AreUnderWay}
use Rattle.page_chains.proofs.reaching.reached_after.Given as goal

abbrev pub invariant-doubling : goal.invariant-doubling
invariant-doubling l = AreUnderWay l.links l.steps l.reached.items l.stride.items l.left

abbrev pub decreases-doubling : goal.decreases-doubling
decreases-doubling l = l.left
