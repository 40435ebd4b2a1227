use Rattle.std.proofs.Common.{ℕ}
use Rattle.std.specs.List.{Any}
use Rattle.clouds.specs.Hiding.{ReachesKey}
use Rattle.clouds.specs.Wide.{spans_by}
use Rattle.clouds.proofs.Fronts.{Any-from_upto, Any-upto}
use Rattle.clouds.proofs.wide.Wide.scope_reaches.Goals as goal

pub returns : goal.returns
returns c =
    let P : ℕ → Type 0 = λ count. Any (ReachesKey c.args.key.now c.args.place c.args.revision) (spans_by c.args.self.now c.in-Some.scope c.args.key.now count) in
    let upto = rw c.len.ensures at c.lengths_upto-counts.ensures in
    rw c.in-Some.is (
      (λ yes. Any-from_upto P _ _ _ upto (c.some_front_reaches.ensures.0 yes)),
      (λ any. c.some_front_reaches.ensures.1 (Any-upto P _ _ _ upto any)),
    )
