use Rattle.std.proofs.Common.{take}
use Rattle.std.specs.List.{Any}
use Rattle.rbac_timeline.specs.Kept.{MayGrantByListed}
use Rattle.rbac_timeline.proofs.timeline.Timeline.some_may.Given as goal

-- none of the keys so far may grant
abbrev pub invariant-loop-key : goal.invariant-loop-key
invariant-loop-key l = Any (MayGrantByListed l.self l.fn.link.way l.fn.link.role_place l.fn.link.binding_place l.fn.who l.fn.attrs) (take l.key-index l.keys) → ⊥
