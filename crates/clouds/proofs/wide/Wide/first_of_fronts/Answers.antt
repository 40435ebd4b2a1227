use Rattle.std.proofs.Common.{ℕ, subst}
use Rattle.std.specs.List.{Any}
use Rattle.std.proofs.lemmas.List.{take_all}
use Rattle.clouds.specs.FirstPlace.{IsFirstPlace}
use Rattle.clouds.specs.Hiding.{ReachesKey}
use Rattle.clouds.specs.Wide.{spans_by}
use Rattle.clouds.proofs.Fronts.{IsFirstPlace-next}
use Rattle.clouds.proofs.wide.Wide.first_of_fronts.Goals as goal

pub loop-count-preserved : goal.loop-count-preserved
loop-count-preserved c =
    let Q : ℕ → ℕ → Type 0 = λ place count. Any (ReachesKey c.args.key.now place c.args.revision) (spans_by c.args.self.now c.args.scope c.args.key.now count) in
    let spans = rw c.front_of_name.ensures at c.spans_of_front-spans.ensures in
    let next = rw spans at c.first_reached.ensures in
    rw c.lesser_place-first.ensures (IsFirstPlace-next Q _ _ c.args.counts.now c.loop-count.count-index 0 _ _ c.loop-count-test.true c.loop-count.invariant next)

pub returns : goal.returns
returns c =
    let Q : ℕ → ℕ → Type 0 = λ place count. Any (ReachesKey c.args.key.now place c.args.revision) (spans_by c.args.self.now c.args.scope c.args.key.now count) in
    subst (λ counts. IsFirstPlace (λ place. Any (Q place) counts) c.args.low c.args.high c.loop-count.first) (take_all c.loop-count.count-index c.args.counts.now c.loop-count-test.false)
    c.loop-count.invariant
