use Rattle.std.proofs.Common.{pos, ◌<◌, length, Any, arith, sym, ◌∙◌}
use Rattle.std.proofs.lemmas.List.{take_all, take_more}
use Rattle.std.proofs.lemmas.Slice.Zip.{all_zipped_more}
use Rattle.base_types.proofs.Integers.{ge_from_test, lt_from_test}
use Rattle.strict_order.specs.declared.thing.Thing.{Thing}
use Rattle.strict_order.specs.Things.{Crosses}
use Rattle.strict_order.specs.Printed.{IsPrinted}
use Rattle.strict_order.proofs.Judging.{IsFirstSuch-skip, IsFirstSuch-take, crossed_from_late, uncrossed_from_early}
use Rattle.strict_order.proofs.moments.moments_of.Goals as goal
use Rattle.strict_order.proofs.moments.moments_of.Goals.{then-lt, else-lt}

pub loop-thing-preserved : goal.loop-thing-preserved
loop-thing-preserved c =
    let things = c.args.things.now in
    let within : c.loop-thing.thing-index < length things = omega arith in
    let d : Thing = record { line = 0; lo = record { 0 = pos 0 }; hi = record { 0 = pos 0 }; least = 0; greatest = 0 } in
    let printed = c.first_moment-moment.ensures things c.requires.marks in (
      rw (c.in_ok-push.ensures.items, take_more things c.loop-thing.thing-index d within) (all_zipped_more (IsPrinted things) _ _ _ _ c.loop-thing.invariant.0 printed),
      elim c.if-lt.branch [
        | then-lt w ↦ rw w.late-is (IsFirstSuch-take (λ b. Any (λ a. Crosses a b) things) _ _ _ _ _ within (crossed_from_late things _ _ printed (c.requires.moments _ _ within) (lt_from_test _ _ (sym c.lt.ensures ∙ w.if-lt.true))) w.earlier.ensures c.loop-thing.invariant.1)
        | else-lt w ↦ rw w.late-is (IsFirstSuch-skip (λ b. Any (λ a. Crosses a b) things) _ _ _ _ within (uncrossed_from_early things _ _ printed (ge_from_test _ _ (sym c.lt.ensures ∙ w.if-lt.false))) c.loop-thing.invariant.1)
      ],
    )

pub returns-clause-late : goal.returns-clause-late
returns-clause-late c =
    let whole = take_all c.loop-thing.thing-index c.args.things.now (omega arith) in
    rw whole at c.loop-thing.invariant.1
