use Rattle.std.proofs.Common.{ℕ, List, take}
use Rattle.std.specs.List.{Any}
use Rattle.rbac_timeline.specs.Extents.{MayGrantInWay}
use Rattle.rbac_timeline.specs.Found.{AreFirst, FirstFor, MayGrantNamed}
use Rattle.rbac_timeline.specs.Reigning.{AsGroup, Means}
use Rattle.rbac_timeline.proofs.search.Asked.groups_pair.Given as goal

-- the first of the groups so far
abbrev pub invariant-loop-group : goal.invariant-loop-group
invariant-loop-group l =
    FirstFor (λ (r b : ℕ). MayGrantInWay l.self.timeline.now l.fn.way r b l.self.who.now l.self.attrs.now)
    (λ (r b : ℕ). Any (λ (group : List ℕ). MayGrantNamed l.self.timeline.now (λ s. Means AsGroup s group) l.fn.way r b l.self.who.now l.self.attrs.now) (take l.group-index l.groups))
    l.self.low l.self.high l.best
    × AreFirst l.self.timeline.now l.self.attrs.now l.self.low l.self.high l.firsts
