use Rattle.std.proofs.Common.{subst, not}
use Rattle.std.specs.Prelude.{◌↔◌, IsTrue}
use Rattle.history_model.specs.Right.{IsUnlistable}
use Rattle.log_context.specs.Histories.{history_of}
use Rattle.serial_machine.proofs.Telling.{first_holds, second_holds, second_told, false_told, untold}
use Rattle.serial_machine.proofs.listing.is_lacked.Goals as goal

pub returns-then-is_clouded : goal.returns-then-is_clouded
returns-then-is_clouded c = first_holds (c.is_clouded.ensures.0 c.if-is_clouded.true)

pub returns-in_default : goal.returns-in_default
returns-in_default c = second_holds (subst (λ o. IsUnlistable (history_of c.args.scene.context.now) c.args.number o) c.in_default.ensures tt)

pub returns : goal.returns
returns c = second_told (not c.in_ok-is_listable.field-0) (untold c.is_clouded.result c.is_clouded.ensures c.if-is_clouded.false)
    (subst (λ o. IsTrue (not c.in_ok-is_listable.field-0) ↔ IsUnlistable (history_of c.args.scene.context.now) c.args.number o) c.in-Some.ensures (false_told _ _ c.in_ok-is_listable.ensures))
