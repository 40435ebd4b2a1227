use Rattle.std.proofs.Common.{◌≡◌, ◌++◌, take, string_bytes}
use Rattle.std.specs.List.{flat_map}
use Rattle.finding_picture.specs.Marks.{mark_text}
use Rattle.finding_picture.proofs.places.push_marks.Given as goal

abbrev pub invariant-loop-write : goal.invariant-loop-write
invariant-loop-write l = string_bytes l.text ≡ string_bytes l.initial.text ++ flat_map (mark_text l.context.events l.axis) (take l.write-index l.write-items)
