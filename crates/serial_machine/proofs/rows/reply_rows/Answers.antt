use Rattle.std.proofs.Common.{drop, map, sym, ap, subst, ◌+◌, ◌∙◌}
use Rattle.history_model.specs.Machine.{Reply}
use Rattle.log_context.specs.Histories.{history_of}
use Rattle.write_groups.specs.Modelled.{event_of}
use Rattle.serial_machine.proofs.Gathering.{AreRowsBefore, rows_more, reply_next, reply_skipped}
use Rattle.serial_machine.specs.Ordered.{placed_replies, replies_from}
use Rattle.serial_machine.proofs.rows.reply_rows.Goals as goal
use Rattle.serial_machine.proofs.rows.reply_rows.Goals.{in-Some+in_ok-push, in_default}

pub loop-i-preserved : goal.loop-i-preserved
loop-i-preserved c =
    let h = history_of c.args.context.now in
    let lines = c.args.lines.now in
    let log = c.log-log.result.now in
    let i = c.loop-i.i in
    let event = c.index-log-i.result in
    let steps = placed_replies h lines in
    let rest = replies_from lines (i + 1) (map event_of (drop (i + 1) log)) in
    elim c.match-answer_at.branch [
      | in-Some+in_ok-push w ↦ subst (λ l. AreRowsBefore h steps rest l) (sym (ap (λ v. v.items) w.rows-is ∙ w.in_ok-push.ensures.items))
          (rows_more h steps rest (Reply i (event_of event) w.in-Some.place) c.loop-i.rows.items w.reply_row.result (w.reply_row.ensures.turn h) w.reply_row.ensures.step
          (subst (λ l. AreRowsBefore h steps l c.loop-i.rows.items) (reply_next lines log i event c.loop-i-test.true c.index-log-i.is w.in-Some.place (sym w.in-Some.ensures)) c.loop-i.invariant))
      | in_default w ↦ subst (λ l. AreRowsBefore h steps rest l) (sym (ap (λ v. v.items) w.rows-is))
          (subst (λ l. AreRowsBefore h steps l c.loop-i.rows.items) (reply_skipped lines log i event c.loop-i-test.true c.index-log-i.is (sym w.in_default.ensures)) c.loop-i.invariant)
    ]
