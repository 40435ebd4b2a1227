use Rattle.std.proofs.Common.{◌≡◌, filter, map, take}
use Rattle.log_picture.specs.Revised.{is_written}
use Rattle.log_picture.proofs.revised.written_of.Given as goal

-- those so far
abbrev pub invariant-loop-version : goal.invariant-loop-version
invariant-loop-version l = map (λ one. one.now) l.written.items ≡ filter (λ v. is_written v.maker) (take l.version-index l.versions)
