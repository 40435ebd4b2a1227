use Rattle.std.proofs.Common.{◌≡◌, ◌++◌, map, take, string_bytes}
use Rattle.std.specs.List.{flat_map}
use Rattle.finding_picture.specs.Segments.{segment_text}
use Rattle.finding_picture.proofs.segments.push_boxes.Given as goal

abbrev pub invariant-loop-version : goal.invariant-loop-version
invariant-loop-version l = string_bytes l.text ≡ string_bytes l.initial.text ++ flat_map (segment_text l.axis) (map (λ one. one.now) (take l.version-index l.versions))
