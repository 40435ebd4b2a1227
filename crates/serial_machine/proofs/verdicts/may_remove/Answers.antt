use Rattle.object_past.specs.Modelled.{recorded, version_of}
use Rattle.log_context.specs.Histories.{history_of}
use Rattle.write_groups.specs.Modelled.{event_of}
use Rattle.serial_machine.specs.Stepping.{scene_objects}
use Rattle.serial_machine.proofs.Telling.{nothing_to_remove, may_by, uid_same}
use Rattle.serial_machine.proofs.verdicts.may_remove.Goals as goal

pub returns-in_default : goal.returns-in_default
returns-in_default c = nothing_to_remove (history_of c.args.scene.context.now) (event_of c.args.event.now) (recorded c.args.removal.now) (scene_objects c.args.scene c.args.removal.now.key) c.in_default.ensures

pub returns : goal.returns
returns c = may_by (history_of c.args.scene.context.now) (event_of c.args.event.now) (recorded c.args.removal.now) (scene_objects c.args.scene c.args.removal.now.key) c.meets_preconditions.result
    (version_of c.in-Some.version.now) c.in-Some.ensures (uid_same c.in-Some.version.now.uid c.args.removal.now.uid c.ne.result c.ne.ensures c.if-ne.false) c.meets_preconditions.ensures
