use Rattle.std.proofs.Common.{◌≡◌, take}
use Rattle.write_groups.specs.Grouped.{members_of}
use Rattle.write_groups.proofs.groups.members_of.Given as goal

abbrev pub invariant-loop-number : goal.invariant-loop-number
invariant-loop-number l = l.members ≡ members_of l.events l.key (take l.number-index l.numbers)
