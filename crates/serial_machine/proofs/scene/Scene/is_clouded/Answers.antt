use Rattle.serial_machine.proofs.Telling.{told_by}
use Rattle.serial_machine.proofs.scene.Scene.is_clouded.Goals as goal

pub returns : goal.returns
returns c = told_by c.clouded.result c.clouded.ensures (c.clouds.ensures.clouded c.args.key.now c.args.place).0 (c.clouds.ensures.clouded c.args.key.now c.args.place).1
