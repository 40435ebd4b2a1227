use Rattle.std.proofs.Common.{List, ◌++◌, take}
use Rattle.base_types.specs.declared.kubernetes.key.ObjectKey.{ObjectKey}
use Rattle.rbac_timeline.specs.Unsure.{AreFound}
use Rattle.rbac_timeline.proofs.unsure.Unsure.add_each.Given as goal

-- the keys so far are found
abbrev pub invariant-loop-key : goal.invariant-loop-key
invariant-loop-key l = (keys : List ObjectKey) → AreFound l.initial.self keys → AreFound l.self (keys ++ take l.key-index l.more)
