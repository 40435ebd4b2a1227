use Rattle.std.proofs.Common.{List, map, take}
use Rattle.clouds.specs.declared.span.OpaqueSpan.{OpaqueSpan}
use Rattle.clouds.specs.Filed.{AreFiled}
use Rattle.clouds.specs.Recorded.{AreSame, firsts_at, revisions_at}
use Rattle.clouds.proofs.Firsts.{FirstsSoFar}
use Rattle.clouds.proofs.recorded.add_each_first.Given as goal

-- the revisions stay, and the first places behind those so far are kept
abbrev pub invariant-loop-write : goal.invariant-loop-write
invariant-loop-write l = AreSame (revisions_at l.fn.recorded) (revisions_at l.recorded)
    × ((spans : List OpaqueSpan) → AreFiled l.fn.filed.named l.fn.filed.wide spans
    → FirstsSoFar (record { spans = spans; revisions = map (λ write. write.now) l.writes }) (map (λ write. write.now) (take l.write-index l.writes)) (firsts_at l.recorded))
