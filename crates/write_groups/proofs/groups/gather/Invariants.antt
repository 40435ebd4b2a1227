use Rattle.std.proofs.Common.{take}
use Rattle.write_groups.specs.Grouped.{AreGathered}
use Rattle.write_groups.proofs.groups.gather.Given as goal

abbrev pub invariant-loop-number : goal.invariant-loop-number
invariant-loop-number l = AreGathered l.start l.events (take l.number-index l.order) l.made
