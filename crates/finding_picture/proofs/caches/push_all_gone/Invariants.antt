use Rattle.std.proofs.Common.{◌≡◌, ◌++◌, map, take, string_bytes}
use Rattle.std.specs.List.{flat_map}
use Rattle.finding_picture.specs.Caches.{gone_row}
use Rattle.finding_picture.proofs.caches.push_all_gone.Given as goal

abbrev pub invariant-loop-removal : goal.invariant-loop-removal
invariant-loop-removal l = string_bytes l.text ≡ string_bytes l.initial.text ++ flat_map (gone_row l.log) (map (λ one. one.now) (take l.removal-index l.gone))
