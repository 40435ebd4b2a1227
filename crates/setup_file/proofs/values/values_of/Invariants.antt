use Rattle.std.proofs.Common.{◌≡◌, ◌++◌, length}
use Rattle.setup_file.proofs.values.values_of.Given as goal

abbrev pub invariant-items : goal.invariant-items
invariant-items l = l.initial.rest ≡ l.values.items ++ l.rest

abbrev pub decreases-items : goal.decreases-items
decreases-items l = length l.rest
