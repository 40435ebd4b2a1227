use Rattle.std.proofs.Common.{◌+◌, ◌<◌, ◌≤◌, ◌≤ℤ◌, arith}
use Rattle.std.proofs.lemmas.Int.{clamps, ints}
use Rattle.std.proofs.lemmas.List.Elements.{All-push, All-weaker}
use Rattle.std.proofs.lemmas.List.Quantifiers.{all_pairs_push}
use Rattle.strict_order.specs.declared.thing.Thing.{Thing}
use Rattle.worked_base.proofs.moment_rows.things_of.Goals as goal

pub loop-line-preserved : goal.loop-line-preserved
loop-line-preserved c =
    let before = c.loop-line.invariant in
    let line = c.loop-line.line in
    let items = c.loop-line.things.items in
    rw (c.in_ok-push.ensures.items, c.thing.ensures) (
      all_pairs_push (λ (a b : Thing). a.line < b.line) items _ before.0 before.1,
      All-push (λ (thing : Thing). thing.line < line + 1 + 1) items _ (All-weaker (λ (thing : Thing). thing.line < line + 1) (λ (thing : Thing). thing.line < line + 1 + 1) (λ thing below. omega arith) items before.1) (omega arith),
      All-push (λ (thing : Thing). thing.lo.0 ≤ℤ thing.hi.0) items _ before.2 (omega (arith, ints, clamps)),
      All-push (λ (thing : Thing). thing.least ≤ thing.greatest) items _ before.3 (omega arith),
    )
