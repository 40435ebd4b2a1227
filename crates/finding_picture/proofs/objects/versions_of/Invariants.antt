use Rattle.std.proofs.Common.{◌≡◌, filter, map, take}
use Rattle.base_types.specs.Keys.{same_key}
use Rattle.finding_picture.proofs.objects.versions_of.Given as goal

-- those so far
abbrev pub invariant-loop-version : goal.invariant-loop-version
invariant-loop-version l = map (λ found. found.now) l.found.items ≡ filter (λ v. same_key v.key l.key) (take l.version-index l.version-items)
