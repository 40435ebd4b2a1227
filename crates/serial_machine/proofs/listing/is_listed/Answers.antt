use Rattle.std.proofs.Common.{subst}
use Rattle.std.specs.Prelude.{◌↔◌, IsTrue}
use Rattle.std.proofs.lemmas.Result.{IfOk-weaker}
use Rattle.history_model.specs.Right.{IsShown}
use Rattle.log_context.specs.Histories.{history_of}
use Rattle.write_groups.specs.Modelled.{item_of}
use Rattle.serial_machine.proofs.Telling.{first_holds, neither, second_told, both_told, untold}
use Rattle.serial_machine.proofs.listing.is_listed.Goals as goal

pub returns-then-is_clouded : goal.returns-then-is_clouded
returns-then-is_clouded c = first_holds (c.is_clouded.ensures.0 c.if-is_clouded.true)

pub returns-then-not-is_shown : goal.returns-then-not-is_shown
returns-then-not-is_shown c =
    let told = subst (λ o. IsTrue c.is_shown.result ↔ IsShown (item_of c.args.item.now) o) c.object.ensures c.is_shown.ensures in
    neither (untold c.is_clouded.result c.is_clouded.ensures c.if-is_clouded.false) (λ held. untold c.is_shown.result told c.if-not-is_shown.true held.0)

pub returns : goal.returns
returns c =
    let told = subst (λ o. IsTrue c.is_shown.result ↔ IsShown (item_of c.args.item.now) o) c.object.ensures c.is_shown.ensures in
    IfOk-weaker c.is_listable.result _ _ (λ right e. second_told right (untold c.is_clouded.result c.is_clouded.ensures c.if-is_clouded.false)
    (both_told right ((history_of c.args.scene.context.now).listable c.args.number c.args.item.now.node.0) (told.0 c.if-not-is_shown.false) e)) c.is_listable.ensures
