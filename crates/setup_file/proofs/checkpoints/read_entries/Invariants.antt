use Rattle.std.proofs.Common.{◌≡◌, ◌+◌, ◌++◌, drop}
use Rattle.std.specs.Prelude.{option_map}
use Rattle.setup_file.specs.Checkpoints.{checkpoints_from}
use Rattle.setup_file.proofs.checkpoints.read_entries.Given as goal

abbrev pub invariant-loop-i : goal.invariant-loop-i
invariant-loop-i l = checkpoints_from l.start l.resources 1 l.values ≡ option_map (λ rest. l.checkpoints ++ rest) (checkpoints_from l.start l.resources (l.i + 1) (drop l.i l.values))
