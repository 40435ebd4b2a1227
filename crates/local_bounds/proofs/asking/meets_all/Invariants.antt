use Rattle.std.proofs.Common.{take}
use Rattle.base_types.specs.Choices.{MeetsAll}
use Rattle.local_bounds.proofs.asking.meets_all.Given as goal

abbrev pub invariant-loop-bound : goal.invariant-loop-bound
invariant-loop-bound l = MeetsAll l.choice (take l.bound-index l.bounds)
