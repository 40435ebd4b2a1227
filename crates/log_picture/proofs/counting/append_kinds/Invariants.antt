use Rattle.std.proofs.Common.{◌≡◌, ◌++◌, take, string_bytes}
use Rattle.std.specs.List.{flat_map}
use Rattle.log_picture.specs.Counts.{kind_row}
use Rattle.log_picture.proofs.counting.append_kinds.Given as goal

abbrev pub invariant-loop-kind : goal.invariant-loop-kind
invariant-loop-kind l = string_bytes l.text ≡ string_bytes l.initial.text ++ flat_map (kind_row l.log) (take l.kind-index l.kinds)
