use Rattle.std.proofs.Common.{◌≡◌, ℕ, List, take}
use Rattle.std.specs.Prelude.{map}
use Rattle.setup_file.proofs.resources.have_distinct_resources.Given as goal

abbrev pub invariant-loop-entry : goal.invariant-loop-entry
invariant-loop-entry l = (map {B = List ℕ × List ℕ} (λ pair. (pair.0.now, pair.1.now)) l.pairs.items ≡ map {B = List ℕ × List ℕ} (λ entry. (entry.group, entry.resource)) (take l.entry-index l.entries))
