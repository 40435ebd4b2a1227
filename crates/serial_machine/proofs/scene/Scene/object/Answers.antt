use Rattle.std.proofs.Common.{ap, ◌∙◌}
use Rattle.log_context.specs.Histories.{history_of}
use Rattle.serial_machine.specs.Held.{objects_of, or_else}
use Rattle.serial_machine.proofs.scene.Scene.object.Goals as goal

pub returns-in-Some : goal.returns-in-Some
returns-in-Some c = ap (λ o. or_else o (objects_of (history_of c.args.self.context.now) c.args.self.machine.now c.args.key.now)) c.in-Some.ensures

pub returns-in-None : goal.returns-in-None
returns-in-None c = c.object.ensures ∙ ap (λ o. or_else o (objects_of (history_of c.args.self.context.now) c.args.self.machine.now c.args.key.now)) c.in-None.ensures
