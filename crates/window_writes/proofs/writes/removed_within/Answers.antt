use Rattle.std.proofs.Common.{◌≡◌, ◌+◌, Some, length, slice_get, refl, sym, ap, subst, ◌∙◌, arith}
use Rattle.std.proofs.lemmas.Option.{slice_get_read}
use Rattle.window_writes.proofs.TurnGathering.{turns_none, turns_more, turns_skip}
use Rattle.window_writes.proofs.TurnShowing.{removal_known}
use Rattle.window_writes.specs.Turns.{AreRemovedTurns, IsRemovedTurn, IsRemovedWithin}
use Rattle.window_writes.proofs.writes.removed_within.Goals as goal
use Rattle.window_writes.proofs.writes.removed_within.Goals.{then-is_removed_within+in_ok-push, else-is_removed_within}

pub removed_turn-requires : goal.removed_turn-requires
removed_turn-requires c =
    let known = c.args.context.now in
    let removal = c.index-removals-position.result in
    let at : slice_get known.removals c.loop-position.position ≡ Some removal =
    ap (λ l. slice_get l c.loop-position.position) (sym c.past.ensures.removals ∙ sym c.removals-removals.ensures.removals) ∙ slice_get_read c.removals-removals.result.now (length c.removals-removals.result.now) c.loop-position.position removal refl c.loop-position-test.true c.index-removals-position.is in
    removal_known known c.loop-position.position removal c.requires at

pub loop-position-init : goal.loop-position-init
loop-position-init c = rw c.new-turns.ensures.items (turns_none (IsRemovedWithin c.args.window.low c.args.window.high) (IsRemovedTurn c.args.context.now) c.args.context.now.removals)

pub loop-position-preserved : goal.loop-position-preserved
loop-position-preserved c =
    let known = c.args.context.now in
    let low = c.args.window.low in
    let high = c.args.window.high in
    let removal = c.index-removals-position.result in
    let i = c.loop-position.position in
    let at : slice_get known.removals i ≡ Some removal =
    ap (λ l. slice_get l i) (sym c.past.ensures.removals ∙ sym c.removals-removals.ensures.removals) ∙ slice_get_read c.removals-removals.result.now (length c.removals-removals.result.now) i removal refl c.loop-position-test.true c.index-removals-position.is in
    elim c.if-is_removed_within.branch [
      | then-is_removed_within+in_ok-push w ↦
          subst (AreRemovedTurns known low high (i + 1)) (sym (ap (λ v. v.items) w.turns-is ∙ w.in_ok-push.ensures.items))
          (turns_more (IsRemovedWithin low high) (IsRemovedTurn known) known.removals i c.loop-position.turns.items w.removed_turn.result removal c.loop-position.invariant at
          (c.is_removed_within.ensures.0 w.if-is_removed_within.true) w.removed_turn.ensures.position w.removed_turn.ensures.turn)
      | else-is_removed_within w ↦
          subst (AreRemovedTurns known low high (i + 1)) (sym (ap (λ v. v.items) w.turns-is))
          (turns_skip (IsRemovedWithin low high) (IsRemovedTurn known) known.removals i c.loop-position.turns.items removal c.loop-position.invariant at
          (λ counts. absurd (let there = c.is_removed_within.ensures.1 counts in cc (there, w.if-is_removed_within.false))))
    ]

pub returns : goal.returns
returns c =
    let known = c.args.context.now in
    let whole : c.loop-position.position ≡ length known.removals = omega (arith, c.loop-position-test.false, c.loop-position.auto.position-end, ap length (c.removals-removals.ensures.removals ∙ c.past.ensures.removals)) in
    subst (λ n. AreRemovedTurns known c.args.window.low c.args.window.high n c.loop-position.turns.items) whole c.loop-position.invariant
