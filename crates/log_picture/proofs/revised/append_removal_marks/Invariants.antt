use Rattle.std.proofs.Common.{◌≡◌, ◌++◌, map, take, string_bytes}
use Rattle.std.specs.List.{flat_map}
use Rattle.log_picture.specs.Revised.{removal_mark}
use Rattle.log_picture.proofs.revised.append_removal_marks.Given as goal

abbrev pub invariant-loop-removal : goal.invariant-loop-removal
invariant-loop-removal l = string_bytes l.text ≡ string_bytes l.initial.text ++ flat_map (removal_mark l.axis l.log) (map (λ one. one.now) (take l.removal-index l.removals))
