use Rattle.std.proofs.lemmas.Bool.{both_ways}
use Rattle.clouds.proofs.Covered.{reach_covers, reach_from_marks, reach_of_marks}
use Rattle.clouds.proofs.cover.CoverSpans.reach.Goals as goal

pub returns-then-covers : goal.returns-then-covers
returns-then-covers c =
    let reaches = rw c.deref.ensures.value at c.reaches.ensures in
    rw (← c.self.view_is) (
      (λ yes. reach_from_marks _ _ _ _ _ (c.covers.ensures.0 c.if-covers.true) (reaches.0 yes)),
      (λ any. reaches.1 (reach_of_marks _ _ _ _ _ any)),
    )

pub returns-else-covers : goal.returns-else-covers
returns-else-covers c = rw (← c.self.view_is) (
  (λ yes. absurd (both_ways _ c.if-covers.false yes)),
  (λ any. absurd (both_ways _ c.if-covers.false (c.covers.ensures.1 (reach_covers _ _ _ _ _ any)))),
)
