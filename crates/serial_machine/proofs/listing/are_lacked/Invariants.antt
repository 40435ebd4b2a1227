use Rattle.std.proofs.Common.{take, All}
use Rattle.history_model.specs.Right.{IsLacked}
use Rattle.log_context.specs.Histories.{history_of}
use Rattle.serial_machine.specs.Stepping.{scene_objects}
use Rattle.serial_machine.proofs.listing.are_lacked.Given as goal

abbrev pub invariant-loop-key : goal.invariant-loop-key
invariant-loop-key l = All (λ key. IsLacked (history_of l.scene.context.now) l.number l.place key.now (scene_objects l.scene key.now)) (take l.key-index l.keys)
