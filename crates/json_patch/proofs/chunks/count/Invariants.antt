use Rattle.std.proofs.Common.{◌≡◌, length, take}
use Rattle.json_patch.specs.Joined.{joined}
use Rattle.json_patch.proofs.chunks.count.Given as goal

abbrev pub invariant-loop-part : goal.invariant-loop-part
invariant-loop-part l = l.count ≡ length (joined (take l.part-index l.parts))
