use Rattle.std.proofs.Common.{◌≡◌, filter, map, take}
use Rattle.finding_picture.specs.Segments.{is_on_axis}
use Rattle.finding_picture.proofs.segments.own_versions.Given as goal

-- those so far
abbrev pub invariant-loop-version : goal.invariant-loop-version
invariant-loop-version l = map (λ found. found.now) l.found.items ≡ filter (is_on_axis l.axis l.key) (take l.version-index l.versions)
