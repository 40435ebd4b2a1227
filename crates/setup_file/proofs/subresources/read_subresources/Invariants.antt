use Rattle.std.proofs.Common.{◌≡◌, ◌++◌, drop}
use Rattle.std.specs.Prelude.{option_map}
use Rattle.setup_file.specs.Resources.{subresources_in}
use Rattle.setup_file.proofs.subresources.read_subresources.Given as goal

abbrev pub invariant-loop-value : goal.invariant-loop-value
invariant-loop-value l = subresources_in l.values ≡ option_map (λ rest. l.subresources ++ rest) (subresources_in (drop l.value-index l.values))
