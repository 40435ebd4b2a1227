use Rattle.std.proofs.Common.{◌≡◌, ◌++◌, take, string_bytes}
use Rattle.std.specs.List.{flat_map}
use Rattle.log_picture.specs.Revised.{unrecorded_row}
use Rattle.log_picture.proofs.tables.append_unrecorded_rows.Given as goal

abbrev pub invariant-loop-unrecorded : goal.invariant-loop-unrecorded
invariant-loop-unrecorded l = string_bytes l.text ≡ string_bytes l.initial.text ++ flat_map (unrecorded_row) (take l.unrecorded-index l.unrecorded_writes)
