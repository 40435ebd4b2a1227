use Rattle.std.proofs.lemmas.Bool.{both_ways}
use Rattle.clouds.proofs.Covered.{HoldsNowhere-uncovered, IsFirstPlace-covered}
use Rattle.clouds.proofs.cover.CoverSpans.first_reached.Goals as goal

pub returns-then-not-covers : goal.returns-then-not-covers
returns-then-not-covers c =
    rw (← c.self.view_is) (HoldsNowhere-uncovered _ _ _ _ _ _ (λ covers. both_ways _ c.if-not-covers.true (c.covers.ensures.1 covers)))

pub returns : goal.returns
returns c =
    let first = rw c.deref.ensures.value at c.first_reached.ensures in
    rw (← c.self.view_is) (IsFirstPlace-covered _ _ _ _ _ _ _ (c.covers.ensures.0 c.if-not-covers.false) first)
