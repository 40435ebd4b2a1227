use Rattle.std.proofs.Common.{◌++◌, sym, ap, subst, ◌∙◌}
use Rattle.log_context.specs.Histories.{history_of}
use Rattle.serial_machine.proofs.Arranging.{rows_are}
use Rattle.serial_machine.proofs.Gathering.{rows_join, both_ok}
use Rattle.serial_machine.proofs.Placing.{placed_steps}
use Rattle.serial_machine.specs.Ordered.{AreRowsOf, placed_puts, placed_removals, placed_replies}
use Rattle.serial_machine.proofs.rows.rows_of.Goals as goal

pub returns : goal.returns
returns c =
    let h = history_of c.args.context.now in
    let lines = c.args.lines.now in
    let of = subst (λ l. AreRowsOf h (placed_steps h lines) l) (sym (c.in_ok-append-2.ensures.items ∙ ap (λ l. l ++ c.in_ok-reply_rows.field-0.items) c.in_ok-append.ensures.items))
    (rows_join h (placed_puts h) (placed_removals h lines) (placed_replies h lines) _ _ _ c.in_ok-rows.ensures c.in_ok-removal_rows.ensures c.in_ok-reply_rows.ensures) in
    both_ok _ _ _ c.sorted.result (λ sorted same order. rows_are h c.log-log.ensures.readable lines c.requires.rising c.requires.fitting _ sorted.items of same order) c.sorted.ensures.same c.sorted.ensures.sorted
