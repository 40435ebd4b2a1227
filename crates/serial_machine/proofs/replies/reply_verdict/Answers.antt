use Rattle.serial_machine.specs.Stepping.{scene_objects}
use Rattle.serial_machine.proofs.Telling.{untold}
use Rattle.serial_machine.proofs.replies.reply_verdict.Goals as goal

pub returns-then-branch : goal.returns-then-branch
returns-then-branch c = c.in_ok-is_right.ensures.0 c.if-branch.true

pub returns : goal.returns
returns c = c.wrong_code.ensures c.args.place (scene_objects c.args.scene) (untold _ c.in_ok-is_right.ensures c.if-branch.false)
