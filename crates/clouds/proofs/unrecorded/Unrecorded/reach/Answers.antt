use Rattle.clouds.proofs.Quantified.{Any-joined, Any-parted}
use Rattle.clouds.specs.Hiding.{ReachesKey}
use Rattle.clouds.proofs.unrecorded.Unrecorded.reach.Goals as goal

pub returns : goal.returns
returns c =
    let some = rw c.deref.ensures.value at c.some_reaches.ensures in
    rw (← c.self.view_is) (
      (λ yes. Any-joined (ReachesKey c.args.key.now c.args.place c.args.revision) _ (some.0 yes)),
      (λ any. some.1 (Any-parted (ReachesKey c.args.key.now c.args.place c.args.revision) _ any)),
    )
