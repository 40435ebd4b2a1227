use Rattle.std.proofs.Common.{◌≡◌, ◌++◌, drop}
use Rattle.std.specs.Prelude.{option_map}
use Rattle.setup_file.specs.Resources.{entries_in}
use Rattle.setup_file.proofs.resources.read_entries.Given as goal

abbrev pub invariant-loop-value : goal.invariant-loop-value
invariant-loop-value l = entries_in l.values ≡ option_map (λ rest. l.entries.items ++ rest) (entries_in (drop l.value-index l.values))
