use Rattle.std.proofs.Common.{◌≡◌, ◌++◌, drop}
use Rattle.std.specs.Prelude.{option_map}
use Rattle.setup_file.specs.Resources.{tracked_in}
use Rattle.setup_file.proofs.resources.read_all_tracked.Given as goal

abbrev pub invariant-loop-value : goal.invariant-loop-value
invariant-loop-value l = tracked_in l.values ≡ option_map (λ rest. l.resources ++ rest) (tracked_in (drop l.value-index l.values))
