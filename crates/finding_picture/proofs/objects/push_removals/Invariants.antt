use Rattle.std.proofs.Common.{◌≡◌, ◌++◌, map, take, string_bytes}
use Rattle.std.specs.List.{flat_map}
use Rattle.finding_picture.specs.Objects.{removal_row}
use Rattle.finding_picture.proofs.objects.push_removals.Given as goal

abbrev pub invariant-loop-removal : goal.invariant-loop-removal
invariant-loop-removal l = string_bytes l.text ≡ string_bytes l.initial.text ++ flat_map (removal_row l.log) (map (λ one. one.now) (take l.removal-index l.removals))
