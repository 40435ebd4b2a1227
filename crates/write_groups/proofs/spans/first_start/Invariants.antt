use Rattle.std.proofs.Common.{◌≡◌, take}
use Rattle.write_groups.specs.Spanned.{first_start}
use Rattle.write_groups.proofs.spans.first_start.Given as goal

abbrev pub invariant-loop-number : goal.invariant-loop-number
invariant-loop-number l = l.first ≡ first_start l.events (take l.number-index l.numbers)
