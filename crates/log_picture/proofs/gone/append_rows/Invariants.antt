use Rattle.std.proofs.Common.{◌≡◌, ◌++◌, map, take, string_bytes}
use Rattle.std.specs.List.{flat_map}
use Rattle.log_picture.specs.Gone.{removal_row}
use Rattle.log_picture.proofs.gone.append_rows.Given as goal

abbrev pub invariant-loop-removal : goal.invariant-loop-removal
invariant-loop-removal l = string_bytes l.text ≡ string_bytes l.initial.text ++ flat_map (removal_row l.log l.lines) (map (λ one. one.now) (take l.removal-index l.removals))
