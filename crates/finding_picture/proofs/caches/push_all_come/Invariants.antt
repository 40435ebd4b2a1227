use Rattle.std.proofs.Common.{◌≡◌, ◌++◌, map, take, string_bytes}
use Rattle.std.specs.List.{flat_map}
use Rattle.finding_picture.specs.Caches.{come_row}
use Rattle.finding_picture.proofs.caches.push_all_come.Given as goal

abbrev pub invariant-loop-version : goal.invariant-loop-version
invariant-loop-version l = string_bytes l.text ≡ string_bytes l.initial.text ++ flat_map (come_row l.log) (map (λ one. one.now) (take l.version-index l.come))
