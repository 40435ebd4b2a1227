use Rattle.std.proofs.Common.{◌≡◌, take}
use Rattle.write_groups.specs.Spanned.{first_end}
use Rattle.write_groups.proofs.spans.first_end.Given as goal

abbrev pub invariant-loop-number : goal.invariant-loop-number
invariant-loop-number l = l.first ≡ first_end l.events (take l.number-index l.numbers)
