use Rattle.std.proofs.Common.{drop, map, sym, ap, subst, ◌+◌, ◌∙◌}
use Rattle.std.proofs.lemmas.List.{drop_all}
use Rattle.history_model.specs.Machine.{Remove}
use Rattle.object_past.specs.Modelled.{recorded}
use Rattle.log_context.specs.Histories.{history_of}
use Rattle.write_groups.specs.Modelled.{event_of}
use Rattle.serial_machine.proofs.Gathering.{AreRowsBefore, rows_all, rows_more, rows_none, removal_next}
use Rattle.serial_machine.specs.Ordered.{placed_removal, placed_removals}
use Rattle.serial_machine.proofs.rows.removal_rows.Goals as goal

pub loop-removal-init : goal.loop-removal-init
loop-removal-init c = rows_none (history_of c.args.context.now) (placed_removals (history_of c.args.context.now) c.args.lines.now) _ _ c.new-rows.ensures.items
    (ap (λ rs. map (placed_removal c.args.lines.now) (map recorded rs)) (c.removals-removals.ensures.removals ∙ c.past.ensures.removals))

pub loop-removal-preserved : goal.loop-removal-preserved
loop-removal-preserved c =
    let h = history_of c.args.context.now in
    let lines = c.args.lines.now in
    let removals = c.removals-removals.result.now in
    let i = c.loop-removal.removal-index in
    let removal = c.removal-item.result in
    let steps = placed_removals h lines in
    let rest = map (placed_removal lines) (map recorded (drop (i + 1) removals)) in
    subst (λ l. AreRowsBefore h steps rest l) (sym c.in_ok-push.ensures.items)
    (rows_more h steps rest (placed_removal lines (recorded removal)) c.loop-removal.rows.items c.removal_row.result (c.removal_row.ensures.turn h (ap (map event_of) (sym c.log-log.ensures.log)))
    (c.removal_row.ensures.step ∙ ap (λ p. Remove (record { removal = recorded removal; place = p })) c.line_place-place.ensures)
    (subst (λ l. AreRowsBefore h steps l c.loop-removal.rows.items) (removal_next lines removals i removal c.loop-removal-test.true c.removal-item.is) c.loop-removal.invariant))

pub returns : goal.returns
returns c = rows_all (history_of c.args.context.now) (placed_removals (history_of c.args.context.now) c.args.lines.now) _ c.loop-removal.rows.items
    (ap (λ rs. map (placed_removal c.args.lines.now) (map recorded rs)) (drop_all c.loop-removal.removal-index c.removals-removals.result.now c.loop-removal-test.false)) c.loop-removal.invariant
