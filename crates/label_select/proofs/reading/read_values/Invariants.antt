use Rattle.std.proofs.Common.{◌≡◌, ℕ, ◌+◌, ◌<◌, length}
use Rattle.label_select.specs.Readings.{values_in}
use Rattle.label_select.proofs.Steps.{prefixed}
use Rattle.label_select.proofs.reading.read_values.Given as goal

abbrev pub invariant-loop-values : goal.invariant-loop-values
invariant-loop-values l = (n : ℕ) × (length l.rest < n) × (values_in (length l.bytes + 1) l.bytes ≡ prefixed l.values (values_in n l.rest))

abbrev pub decreases-loop-values : goal.decreases-loop-values
decreases-loop-values l = length l.rest
