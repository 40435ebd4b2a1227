use Rattle.std.proofs.Common.{ℕ, List, take}
use Rattle.std.specs.List.{Any}
use Rattle.rbac_timeline.specs.Extents.{MustGrantInWay}
use Rattle.rbac_timeline.specs.Found.{LastsFor, MustGrantNamed}
use Rattle.rbac_timeline.specs.Reigning.{AsGroup, Means}
use Rattle.rbac_timeline.proofs.search.Asked.groups_until.Given as goal

-- the farthest of the groups so far
abbrev pub invariant-loop-group : goal.invariant-loop-group
invariant-loop-group l =
    LastsFor (λ (r b : ℕ). MustGrantInWay l.self.timeline.now l.link.way r b l.self.who.now l.self.attrs.now)
    (Any (λ (group : List ℕ). MustGrantNamed l.self.timeline.now (λ s. Means AsGroup s group) l.link.way l.link.role_place l.link.binding_place l.self.who.now l.self.attrs.now) (take l.group-index l.groups))
    l.link.role_place l.link.binding_place l.self.high l.farthest
