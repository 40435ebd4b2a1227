use Rattle.std.proofs.Common.{ap, subst}
use Rattle.std.proofs.lemmas.Result.{IfOk-weaker}
use Rattle.history_model.specs.Making.{IsLeastFault}
use Rattle.object_past.specs.Modelled.{maker_of, version_of}
use Rattle.log_context.specs.Histories.{history_of}
use Rattle.serial_machine.specs.Stepping.{scene_objects}
use Rattle.serial_machine.proofs.Allowing.{put_judged, put_unjudged}
use Rattle.serial_machine.proofs.verdicts.put_verdict.Goals as goal

pub returns-in-Event : goal.returns-in-Event
returns-in-Event c = IfOk-weaker c.making_fault.result _ _
    (λ found least. put_judged (history_of c.args.scene.context.now) (scene_objects c.args.scene) (version_of c.args.version.now) c.in-Event.number found c.log-log.ensures.readable c.requires.known (ap maker_of c.in-Event.is)
    (λ making known same. subst (λ o. IsLeastFault (history_of c.args.scene.context.now) making o found) c.object-before.ensures (least making known same)))
    c.making_fault.ensures.write

pub returns-in-Snapshot : goal.returns-in-Snapshot
returns-in-Snapshot c = put_unjudged (history_of c.args.scene.context.now) (scene_objects c.args.scene) (version_of c.args.version.now) (λ number e. let is = ap maker_of c.in-Snapshot.is in cc (is, e))

pub returns-in-Unknown : goal.returns-in-Unknown
returns-in-Unknown c = put_unjudged (history_of c.args.scene.context.now) (scene_objects c.args.scene) (version_of c.args.version.now) (λ number e. let is = ap maker_of c.in-Unknown.is in cc (is, e))
