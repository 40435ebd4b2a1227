use Rattle.clouds.specs.Hiding.{ReachesKey}
use Rattle.clouds.proofs.Keeping.{Any-none}
use Rattle.clouds.proofs.clouds.Clouds.may_make.Goals as goal

pub returns-then-is_empty : goal.returns-then-is_empty
returns-then-is_empty c =
    let none = c.is_empty.ensures.0 c.if-is_empty.true in
    rw (← c.self.view_is) (
      (λ yes. absurd (cc)),
      (λ any. absurd (Any-none _ _ _ c.args.key.now (ReachesKey c.args.key.now c.args.revision c.args.revision) c.self.invariant.filed none (λ span reaches. reaches.0) any)),
    )
