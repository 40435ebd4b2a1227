use Rattle.std.proofs.Common.{Bor}
use Rattle.base_types.specs.declared.kubernetes.key.ObjectKey.{ObjectKey}
use Rattle.history_model.specs.Right.{IsLacked}
use Rattle.log_context.specs.Histories.{history_of}
use Rattle.serial_machine.specs.Stepping.{scene_objects}
use Rattle.serial_machine.proofs.Telling.{all_more, all_done, one_fails, untold}
use Rattle.serial_machine.proofs.listing.are_lacked.Goals as goal

pub returns-then-not-branch : goal.returns-then-not-branch
returns-then-not-branch c = one_fails (λ (key : Bor ObjectKey). IsLacked (history_of c.args.scene.context.now) c.args.number c.args.place key.now (scene_objects c.args.scene key.now)) c.args.keys.now
    c.loop-key.key-index c.key-item.result c.loop-key-test.true c.key-item.is (untold _ c.in_ok-is_lacked.ensures c.if-not-branch.true)

pub loop-key-preserved : goal.loop-key-preserved
loop-key-preserved c = all_more (λ (key : Bor ObjectKey). IsLacked (history_of c.args.scene.context.now) c.args.number c.args.place key.now (scene_objects c.args.scene key.now)) c.args.keys.now
    c.loop-key.key-index c.key-item.result c.loop-key-test.true c.key-item.is (c.in_ok-is_lacked.ensures.0 c.if-not-branch.false) c.loop-key.invariant

pub returns : goal.returns
returns c = all_done (λ (key : Bor ObjectKey). IsLacked (history_of c.args.scene.context.now) c.args.number c.args.place key.now (scene_objects c.args.scene key.now)) c.args.keys.now
    c.loop-key.key-index c.loop-key-test.false c.loop-key.invariant
