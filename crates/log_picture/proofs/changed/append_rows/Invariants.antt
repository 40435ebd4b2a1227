use Rattle.std.proofs.Common.{◌≡◌, ◌++◌, take, string_bytes}
use Rattle.std.specs.List.{flat_map}
use Rattle.log_picture.specs.Changes.{change_row}
use Rattle.log_picture.proofs.changed.append_rows.Given as goal

abbrev pub invariant-loop-changed : goal.invariant-loop-changed
invariant-loop-changed l = string_bytes l.text ≡ string_bytes l.initial.text ++ flat_map change_row (take l.changed-index l.changes)
