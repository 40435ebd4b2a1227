use Rattle.std.proofs.Common.{subst}
use Rattle.std.specs.Prelude.{◌↔◌, IsTrue}
use Rattle.history_model.specs.Right.{IsRefused}
use Rattle.write_groups.specs.Modelled.{conditions_of}
use Rattle.serial_machine.proofs.Telling.{first_holds, second_told, untold}
use Rattle.serial_machine.proofs.replies.is_other.Goals as goal

pub returns-then-is_clouded : goal.returns-then-is_clouded
returns-then-is_clouded c = first_holds (c.is_clouded.ensures.0 c.if-is_clouded.true)

pub returns : goal.returns
returns c = second_told c.is_refused.result (untold c.is_clouded.result c.is_clouded.ensures c.if-is_clouded.false)
    (subst (λ o. IsTrue c.is_refused.result ↔ IsRefused (conditions_of c.args.asked.now) o) c.object.ensures c.is_refused.ensures)
