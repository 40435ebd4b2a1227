use Rattle.std.proofs.Common.{not, ap, sym, ◌∙◌}
use Rattle.serial_machine.proofs.Telling.{first_holds, second_told, untold, none_told, lent_some, flipped}
use Rattle.serial_machine.proofs.replies.is_absent.Goals as goal

pub returns-then-is_clouded : goal.returns-then-is_clouded
returns-then-is_clouded c = first_holds (c.is_clouded.ensures.0 c.if-is_clouded.true)

pub returns : goal.returns
returns c = second_told c.is_none.result (untold c.is_clouded.result c.is_clouded.ensures c.if-is_clouded.false)
    (none_told c.is_none.result _ _ (flipped c.is_none.result _ c.is_none.ensures ∙ ap not (sym (lent_some c.object.result))) c.object.ensures)
