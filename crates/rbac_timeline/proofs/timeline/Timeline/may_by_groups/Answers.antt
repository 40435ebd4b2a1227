use Rattle.std.proofs.Common.{ℕ, ◌≤◌, List, arith}
use Rattle.std.proofs.lemmas.Bool.{both_ways}
use Rattle.rbac_timeline.specs.Found.{MayGrantNamed}
use Rattle.rbac_timeline.specs.Reigning.{AsGroup, Means}
use Rattle.rbac_timeline.specs.Unsure.{last_place}
use Rattle.rbac_timeline.proofs.Tests.{none_all, none_more}
use Rattle.rbac_timeline.proofs.Subjects.{may_reigning}
use Rattle.rbac_timeline.proofs.timeline.Timeline.may_by_groups.Goals as goal

pub loop-group-preserved : goal.loop-group-preserved
loop-group-preserved c =
    let known = c.args.self.now in
    let link = c.args.link in
    let place : ℕ = link.binding_place in
    let same = c.bindings_at-place.ensures in
    let bound = c.bindings_at-place.type_inv in
    let fits : place ≤ last_place = omega arith in
    none_more (λ (group : List ℕ). MayGrantNamed known (λ s. Means AsGroup s group) link.way link.role_place place c.args.who.now c.args.attrs.now) c.args.groups.now _ c.group-item.result
    c.loop-group-test.true c.group-item.is c.loop-group.invariant
    (λ may. both_ways _ c.if-may_by_reigns.false (c.may_by_reigns.ensures.full (may_reigning known link.way place c.args.who.now c.args.attrs.now link.role_place (λ s. Means AsGroup s c.group-item.result) _ fits c.group_reigns-reigns.ensures may)))

pub returns-clause-full : goal.returns-clause-full
returns-clause-full c = λ any.
    let known = c.args.self.now in
    let link = c.args.link in
    absurd (none_all (λ (group : List ℕ). MayGrantNamed known (λ s. Means AsGroup s group) link.way link.role_place link.binding_place c.args.who.now c.args.attrs.now) c.args.groups.now _
    c.loop-group-test.false c.loop-group.invariant any)
