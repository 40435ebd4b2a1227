use Rattle.std.proofs.Common.{⊎_elim, inl, inr}
use Rattle.std.proofs.lemmas.Bool.{both_ways}
use Rattle.clouds.specs.Hiding.{ReachesKey}
use Rattle.clouds.proofs.Keeping.{Any-filed, Any-given}
use Rattle.clouds.proofs.clouds.Clouds.reaches.Goals as goal

pub returns-then-reach : goal.returns-then-reach
returns-then-reach c =
    let named = rw c.get.ensures.value at c.reach.ensures in
    rw (← c.self.view_is) (
      (λ yes. Any-given _ _ _ c.args.key.now (ReachesKey c.args.key.now c.args.place c.args.revision) c.self.invariant.filed (inl (named.0 yes))),
      (λ any. c.if-reach.true),
    )

pub returns-else-reach : goal.returns-else-reach
returns-else-reach c =
    let named = rw c.get.ensures.value at c.reach.ensures in
    let wide = c.reach-else-reach.ensures in
    rw (← c.self.view_is) (
      (λ yes. Any-given _ _ _ c.args.key.now (ReachesKey c.args.key.now c.args.place c.args.revision) c.self.invariant.filed (inr (wide.0 yes))),
      (λ any. ⊎_elim
          (λ there. absurd (both_ways _ c.if-reach.false (named.1 there)))
          (λ there. wide.1 there)
          (Any-filed _ _ _ c.args.key.now (ReachesKey c.args.key.now c.args.place c.args.revision) c.self.invariant.filed (λ span reaches. reaches.0) any)),
    )
