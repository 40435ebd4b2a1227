use Rattle.std.proofs.Common.{refl, arith, subst}
use Rattle.time_windows.proofs.Running.{Gets, Gets-set, IsLeastFromThere-end, IsLowered-last, IsLowered-more}
use Rattle.time_windows.proofs.mark.lower.Goals as goal

pub loop-i-init : goal.loop-i-init
loop-i-init c = IsLowered-last c.args.marks.now

pub loop-i-preserved : goal.loop-i-preserved
loop-i-preserved c =
    let long = c.loop-i.invariant.long in
    IsLowered-more _ _ _ _ _ (omega arith) (omega arith) c.loop-i.invariant (subst (Gets _ _ _) c.min-mark.ensures (Gets-set _ _ _ _ (omega arith) refl))

pub returns : goal.returns
returns c = IsLeastFromThere-end _ _ _ (omega arith) c.loop-i.invariant
