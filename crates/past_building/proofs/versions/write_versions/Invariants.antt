use Rattle.std.proofs.Common.{◌≡◌, map, take}
use Rattle.history_model.specs.Histories.{History}
use Rattle.write_groups.specs.Members.{AreGroupsOf}
use Rattle.past_building.proofs.Growth.{AreGrown}
use Rattle.past_building.proofs.Writing.{AreWritten, GoesOn}
use Rattle.past_building.specs.Written.{snapshot_version, IsOfLog}
use Rattle.past_building.proofs.versions.write_versions.Given as goal

abbrev pub invariant-loop-group : goal.invariant-loop-group
invariant-loop-group g l = AreGrown (map snapshot_version (map (λ item. item.now) l.order.items)) (take l.group-index l.groups) l.grown
    × ((h : History) → IsOfLog l.log (g.B.Bodies.body l.bodies) h → AreGroupsOf h l.groups → h.start ≡ l.fn.start → GoesOn h l.grown
    → AreWritten h l.log.events.now (map snapshot_version (map (λ item. item.now) l.order.items)) (take l.group-index l.groups) l.grown l.judged.items)
