use Rattle.std.proofs.Common.{◌≡◌, filter, map, take}
use Rattle.base_types.specs.Keys.{same_key}
use Rattle.finding_picture.proofs.objects.removals_of.Given as goal

-- those so far
abbrev pub invariant-loop-removal : goal.invariant-loop-removal
invariant-loop-removal l = map (λ found. found.now) l.found.items ≡ filter (λ r. same_key r.key l.key) (take l.removal-index l.removal-items)
