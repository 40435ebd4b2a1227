use Rattle.std.proofs.Common.{◌≡◌, ◌++◌, drop}
use Rattle.std.specs.Prelude.{option_map}
use Rattle.setup_file.specs.Snapshots.{snapshot_in}
use Rattle.setup_file.proofs.snapshot.read_entries.Given as goal

abbrev pub invariant-loop-value : goal.invariant-loop-value
invariant-loop-value l = snapshot_in l.resources l.values ≡ option_map (λ rest. l.objects ++ rest) (snapshot_in l.resources (drop l.value-index l.values))
