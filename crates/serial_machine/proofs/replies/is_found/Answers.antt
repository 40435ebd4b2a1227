use Rattle.std.proofs.Common.{subst, sym, ◌∙◌}
use Rattle.std.specs.Prelude.{◌↔◌, IsTrue}
use Rattle.history_model.specs.Right.{IsShown}
use Rattle.write_groups.specs.Modelled.{item_of}
use Rattle.serial_machine.proofs.Telling.{first_holds, second_told, untold, and_none, and_some, neither}
use Rattle.serial_machine.proofs.replies.is_found.Goals as goal

pub returns-then-is_clouded : goal.returns-then-is_clouded
returns-then-is_clouded c = first_holds (c.is_clouded.ensures.0 c.if-is_clouded.true)

pub returns : goal.returns
returns c = second_told c.is_shown.result (untold c.is_clouded.result c.is_clouded.ensures c.if-is_clouded.false)
    (and_none c.is_shown.result c.args.fault (subst (λ o. IsTrue c.is_shown.result ↔ IsShown (item_of c.args.item.now) o) c.object.ensures c.is_shown.ensures) (sym c.is_some.ensures ∙ c.if-is_some.false))

pub returns-then-is_some : goal.returns-then-is_some
returns-then-is_some c = neither (untold c.is_clouded.result c.is_clouded.ensures c.if-is_clouded.false) (and_some c.args.fault (sym c.is_some.ensures ∙ c.if-is_some.true))
