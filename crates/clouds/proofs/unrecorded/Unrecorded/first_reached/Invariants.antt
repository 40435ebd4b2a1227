use Rattle.std.proofs.Common.{take}
use Rattle.std.specs.List.{Any, flat_map}
use Rattle.clouds.specs.FirstPlace.{IsFirstPlace}
use Rattle.clouds.specs.Hiding.{ReachesKey}
use Rattle.clouds.proofs.unrecorded.Unrecorded.first_reached.Given as goal

-- the first place of the parts so far
abbrev pub invariant-loop-part : goal.invariant-loop-part
invariant-loop-part l = IsFirstPlace (λ place. Any (ReachesKey l.fn.key place l.revision) (flat_map (λ part. part) (take l.part-index l.part-items))) l.low l.high l.first
