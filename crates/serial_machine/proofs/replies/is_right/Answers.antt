use Rattle.std.proofs.Common.{sym, ap, subst}
use Rattle.std.specs.Prelude.{◌↔◌, IfOk, IsTrue}
use Rattle.history_model.specs.Right.{IsRightAnswer}
use Rattle.log_context.specs.Histories.{history_of}
use Rattle.write_groups.specs.Modelled.{answer_of, event_of, item_of}
use Rattle.serial_machine.specs.Stepping.{scene_objects}
use Rattle.serial_machine.proofs.Allowing.{found_told}
use Rattle.serial_machine.proofs.replies.is_right.Goals as goal

pub returns-in-Made : goal.returns-in-Made
returns-in-Made c = found_told (history_of c.args.scene.context.now) c.args.number (event_of c.args.event.now) c.requires.known c.requires.placed c.fault-fault.result
    (c.fault-fault.ensures (event_of c.args.event.now) c.requires.known) (item_of c.in-Made.item) c.in-Made.created c.args.place (scene_objects c.args.scene) c.is_found.result
    (ap answer_of c.in-Made.is) c.is_found.ensures

pub returns-in-Removed : goal.returns-in-Removed
returns-in-Removed c = subst (λ a. IsTrue c.is_clouded.result ↔ IsRightAnswer (history_of c.args.scene.context.now) c.args.number (event_of c.args.event.now) c.args.place (scene_objects c.args.scene) a)
    (sym (ap answer_of c.in-Removed.is)) c.is_clouded.ensures

pub returns-in-Listed : goal.returns-in-Listed
returns-in-Listed c = subst (λ a. IfOk c.is_list_right.result (λ right. IsTrue right ↔ IsRightAnswer (history_of c.args.scene.context.now) c.args.number (event_of c.args.event.now) c.args.place (scene_objects c.args.scene) a))
    (sym (ap answer_of c.in-Listed.is)) c.is_list_right.ensures
