use Rattle.std.proofs.Common.{List, ℕ, take}
use Rattle.std.specs.List.{Any}
use Rattle.rbac_timeline.specs.Found.{MayGrantNamed}
use Rattle.rbac_timeline.specs.Reigning.{AsGroup, Means}
use Rattle.rbac_timeline.proofs.timeline.Timeline.may_by_groups.Given as goal

-- by none of the groups so far
abbrev pub invariant-loop-group : goal.invariant-loop-group
invariant-loop-group l =
    Any (λ (group : List ℕ). MayGrantNamed l.self (λ s. Means AsGroup s group) l.fn.link.way l.fn.link.role_place l.fn.link.binding_place l.fn.who l.fn.attrs) (take l.group-index l.groups) → ⊥
