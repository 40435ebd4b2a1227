use Rattle.std.proofs.Common.{rules}
use Rattle.past_building.proofs.Writing.{begun_below}
use Rattle.past_building.proofs.versions.begin.Goals as goal

pub with-requires : goal.with-requires
with-requires c = record { above = begun_below c.args.order.now c.loop-item.item-index c.item-item.result c.loop-item.grown c.in_ok-snapshot_version.field-0 (search rules) (search rules) (search rules) (search rules) (search rules) }
