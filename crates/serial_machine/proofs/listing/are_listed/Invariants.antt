use Rattle.std.proofs.Common.{take, All}
use Rattle.history_model.specs.Right.{IsListed}
use Rattle.log_context.specs.Histories.{history_of}
use Rattle.write_groups.specs.Modelled.{item_of}
use Rattle.serial_machine.specs.Stepping.{scene_objects}
use Rattle.serial_machine.proofs.listing.are_listed.Given as goal

abbrev pub invariant-loop-item : goal.invariant-loop-item
invariant-loop-item l = All (λ item. IsListed (history_of l.scene.context.now) l.number l.place (item_of item) (scene_objects l.scene item.key)) (take l.item-index l.items)
