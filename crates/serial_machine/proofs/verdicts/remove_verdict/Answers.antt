use Rattle.object_past.specs.Modelled.{recorded}
use Rattle.log_context.specs.Histories.{history_of}
use Rattle.write_groups.specs.Modelled.{event_of}
use Rattle.serial_machine.specs.Stepping.{scene_objects}
use Rattle.serial_machine.proofs.Allowing.{removal_allowed, removal_forbidden}
use Rattle.serial_machine.proofs.Entering.{event_known, event_unknown}
use Rattle.serial_machine.proofs.Telling.{untold}
use Rattle.serial_machine.proofs.verdicts.remove_verdict.Goals as goal

pub returns-in_default : goal.returns-in_default
returns-in_default c = λ place event known. absurd (event_unknown c.args.scene.context.now.log c.log.result.now c.args.removal.now.range.event event c.log.ensures.log c.in_default.ensures known)

pub returns-then-may_remove : goal.returns-then-may_remove
returns-then-may_remove c = λ place. removal_allowed (history_of c.args.scene.context.now) (scene_objects c.args.scene) (record { removal = recorded c.args.removal.now; place = place }) (event_of c.in-Some.event.now)
    (event_known c.args.scene.context.now.log c.log.result.now c.args.removal.now.range.event c.in-Some.event.now c.log.ensures.log c.in-Some.ensures) (c.may_remove.ensures.0 c.if-may_remove.true)

pub returns : goal.returns
returns c = λ place. removal_forbidden (history_of c.args.scene.context.now) (scene_objects c.args.scene) (record { removal = recorded c.args.removal.now; place = place }) (event_of c.in-Some.event.now)
    (event_known c.args.scene.context.now.log c.log.result.now c.args.removal.now.range.event c.in-Some.event.now c.log.ensures.log c.in-Some.ensures) (untold _ c.may_remove.ensures c.if-may_remove.false)
