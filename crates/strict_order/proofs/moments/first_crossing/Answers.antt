use Rattle.std.proofs.Common.{arith}
use Rattle.std.proofs.lemmas.Bool.{iff_false}
use Rattle.std.proofs.lemmas.List.{take_all}
use Rattle.strict_order.specs.Things.{Crosses}
use Rattle.strict_order.proofs.Judging.{IsFirstSuch-skip, IsFirstSuch-take}
use Rattle.strict_order.proofs.moments.first_crossing.Goals as goal
use Rattle.strict_order.proofs.moments.first_crossing.Goals.{then-crosses, else-crosses}

pub loop-thing-preserved : goal.loop-thing-preserved
loop-thing-preserved c =
    let second = c.args.second.now in
    elim c.if-crosses.branch [
      | then-crosses w ↦ rw w.crossing-is (IsFirstSuch-take (λ a. Crosses a second) _ _ _ _ _ (omega arith) (c.crosses.ensures.0 w.if-crosses.true) w.earlier.ensures c.loop-thing.invariant)
      | else-crosses w ↦ rw w.crossing-is (IsFirstSuch-skip (λ a. Crosses a second) _ _ _ _ (omega arith) (iff_false c.crosses.ensures w.if-crosses.false) c.loop-thing.invariant)
    ]

pub returns : goal.returns
returns c = rw (← take_all c.loop-thing.thing-index c.args.things.now (omega arith)) c.loop-thing.invariant
