use Rattle.std.proofs.Common.{◌≤◌, length}
use Rattle.rbac_timeline.specs.declared.reigns.Reign.{Reign}
use Rattle.rbac_timeline.specs.Kept.{MayGrantByListed}
use Rattle.rbac_timeline.proofs.Partly.{MetFrom}
use Rattle.rbac_timeline.proofs.timeline.Timeline.may_by_reigns.Given as goal

-- none of the reigns so far may grant
abbrev pub invariant-reigns : goal.invariant-reigns
invariant-reigns l =
    (l.rest ≤ length l.reigns)
    × (MetFrom l.fn.link.binding_place l.fn.link.binding_place l.reigns (λ (x : Reign). MayGrantByListed l.self l.fn.link.way l.fn.link.role_place l.fn.link.binding_place l.fn.who l.fn.attrs x.key) l.rest → ⊥)

abbrev pub decreases-reigns : goal.decreases-reigns
decreases-reigns l = l.rest
