use Rattle.std.proofs.Common.{slice_index_or, rules, refl, sym, ap, ◌∙◌}
use Rattle.past_building.proofs.Filing.{first_with, first_without}
use Rattle.past_building.specs.Removals.{number_if, or_first}
use Rattle.past_building.proofs.removed.first_removals.Goals as goal
use Rattle.past_building.proofs.removed.first_removals.Goals.{in-Some+in_ok-add, in_default}

pub loop-number-preserved : goal.loop-number-preserved
loop-number-preserved c = λ key uid. elim c.match-gone_at.branch [
  | in-Some+in_ok-add w ↦
      rw w.removed-is (w.in_ok-add.ensures key uid
      ∙ ap (λ found. or_first found (number_if w.in-Some.gone.key.now w.in-Some.gone.uid.now (slice_index_or c.args.order.now c.loop-number.number-index 0) key uid)) (c.loop-number.invariant key uid)
      ∙ sym (first_with c.args.events.now c.args.order.now c.loop-number.number-index (slice_index_or c.args.order.now c.loop-number.number-index 0) 0 w.in-Some.gone.key.now key w.in-Some.gone.uid.now uid c.loop-number-test.true refl (search rules)))
  | in_default w ↦
      rw w.removed-is (c.loop-number.invariant key uid
      ∙ sym (first_without c.args.events.now c.args.order.now c.loop-number.number-index (slice_index_or c.args.order.now c.loop-number.number-index 0) 0 key uid c.loop-number-test.true refl (search rules)))
]
