use Rattle.std.proofs.Common.{◌≡◌, false, take}
use Rattle.std.specs.List.{list_any}
use Rattle.write_groups.specs.Spanned.{made_surely_at}
use Rattle.write_groups.proofs.spans.is_sure.Given as goal

abbrev pub invariant-loop-number : goal.invariant-loop-number
invariant-loop-number l = list_any (made_surely_at l.events l.group.revision) (take l.number-index l.number-items) ≡ false
