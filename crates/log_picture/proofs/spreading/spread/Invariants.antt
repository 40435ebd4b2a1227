use Rattle.std.proofs.Common.{◌≡◌, take}
use Rattle.log_picture.specs.Limits.{each_from}
use Rattle.log_picture.proofs.spreading.spread.Given as goal

-- those so far
abbrev pub invariant-loop-position : goal.invariant-loop-position
invariant-loop-position g l = l.taken.items ≡ each_from 0 l.step (take l.position l.items)
