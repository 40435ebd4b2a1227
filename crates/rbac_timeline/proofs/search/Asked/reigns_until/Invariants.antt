use Rattle.std.proofs.Common.{ℕ, ◌≤◌, length}
use Rattle.rbac_timeline.specs.declared.reigns.Reign.{Reign}
use Rattle.rbac_timeline.specs.Extents.{MustGrantInWay}
use Rattle.rbac_timeline.specs.Found.{LastsFor}
use Rattle.rbac_timeline.specs.Kept.{MustGrantByListed}
use Rattle.rbac_timeline.proofs.Partly.{MetFrom}
use Rattle.rbac_timeline.proofs.search.Asked.reigns_until.Given as goal

-- the farthest of the reigns so far
abbrev pub invariant-reigns : goal.invariant-reigns
invariant-reigns l =
    (l.rest ≤ length l.reigns)
    × LastsFor (λ (r b : ℕ). MustGrantInWay l.self.timeline.now l.link.way r b l.self.who.now l.self.attrs.now)
    (MetFrom l.link.binding_place l.link.binding_place l.reigns (λ (x : Reign). MustGrantByListed l.self.timeline.now l.link.way l.link.role_place l.link.binding_place l.self.who.now l.self.attrs.now x.key) l.rest)
    l.link.role_place l.link.binding_place l.self.high l.farthest

abbrev pub decreases-reigns : goal.decreases-reigns
decreases-reigns l = l.rest
