use Rattle.std.proofs.Common.{refl, arith, subst}
use Rattle.time_windows.proofs.Running.{Gets, Gets-set, IsGreatestSoFar-end, IsRaised-more}
use Rattle.time_windows.proofs.mark.raise.Goals as goal

pub loop-i-preserved : goal.loop-i-preserved
loop-i-preserved c =
    let long = c.loop-i.invariant.long in
    IsRaised-more _ _ _ _ _ (omega arith) (omega arith) c.loop-i.invariant (subst (Gets _ _ _) c.max-mark.ensures (Gets-set _ _ _ _ (omega arith) refl))

pub returns : goal.returns
returns c = IsGreatestSoFar-end _ _ c.loop-i.i (omega arith) c.loop-i.invariant
