use Rattle.std.proofs.Common.{◌≡◌, ℕ, ◌<◌, length}
use Rattle.label_select.specs.Readings.{selector_in, selector_of}
use Rattle.label_select.proofs.Steps.{joined}
use Rattle.label_select.proofs.reading.read_joined.Given as goal

abbrev pub invariant-loop-selector : goal.invariant-loop-selector
invariant-loop-selector l = (n : ℕ) × (length l.rest < n) × (selector_of l.bytes ≡ joined l.selector (selector_in n l.rest))

abbrev pub decreases-loop-selector : goal.decreases-loop-selector
decreases-loop-selector l = length l.rest
