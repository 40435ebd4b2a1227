use Rattle.std.proofs.Common.{sym, ◌∙◌}
use Rattle.serial_machine.proofs.Telling.{first_holds, second_told, untold, some_told, lent_some}
use Rattle.serial_machine.proofs.replies.is_present.Goals as goal

pub returns-then-is_clouded : goal.returns-then-is_clouded
returns-then-is_clouded c = first_holds (c.is_clouded.ensures.0 c.if-is_clouded.true)

pub returns : goal.returns
returns c = second_told c.is_some.result (untold c.is_clouded.result c.is_clouded.ensures c.if-is_clouded.false)
    (some_told c.is_some.result _ _ (c.is_some.ensures ∙ sym (lent_some c.object.result)) c.object.ensures)
