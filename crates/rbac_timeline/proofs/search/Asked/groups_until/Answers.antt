use Rattle.std.proofs.Common.{ℕ, ◌≤◌, List, take, subst, arith}
use Rattle.std.specs.List.{Any}
use Rattle.std.proofs.lemmas.List.{take_all}
use Rattle.rbac_timeline.specs.Extents.{MustGrantInWay}
use Rattle.rbac_timeline.specs.Found.{LastsFor, MustGrantNamed, MustGrantReigning}
use Rattle.rbac_timeline.specs.Reigning.{AsGroup, Means, found_reigns}
use Rattle.rbac_timeline.specs.Unsure.{last_place}
use Rattle.rbac_timeline.proofs.Pairing.{more_any}
use Rattle.rbac_timeline.proofs.Partly.{LastsFor-farther, LastsFor-weaker}
use Rattle.rbac_timeline.proofs.Subjects.{must_reigning}
use Rattle.rbac_timeline.proofs.search.Asked.groups_until.Goals as goal

pub loop-group-preserved : goal.loop-group-preserved
loop-group-preserved c =
    let s = c.args.self.now in
    let known = s.timeline.now in
    let link = c.args.link in
    let place : ℕ = link.binding_place in
    let all = λ (r b : ℕ). MustGrantInWay known link.way r b s.who.now s.attrs.now in
    let by = λ (group : List ℕ). MustGrantNamed known (λ x. Means AsGroup x group) link.way link.role_place place s.who.now s.attrs.now in
    let same = c.bindings_at-place.ensures in
    let bound = c.bindings_at-place.type_inv in
    let fits : place ≤ last_place = omega arith in
    let here = LastsFor-weaker all link.role_place place s.high (MustGrantReigning known link.way link.role_place place s.who.now s.attrs.now (found_reigns c.group_reigns-reigns.result)) (by c.group-item.result)
    c.reigns_until.result (λ must. must_reigning known link.way place s.who.now s.attrs.now link.role_place (λ x. Means AsGroup x c.group-item.result) _ fits c.group_reigns-reigns.ensures must) c.reigns_until.ensures in
    rw c.farther-farthest.ensures (LastsFor-farther all link.role_place place s.high (Any by (take c.loop-group.group-index c.args.groups.now)) (by c.group-item.result) _ c.loop-group.farthest c.reigns_until.result
    (λ any. more_any by c.args.groups.now c.loop-group.group-index c.group-item.result c.loop-group-test.true c.group-item.is any) c.loop-group.invariant here)

pub returns : goal.returns
returns c =
    let s = c.args.self.now in
    let link = c.args.link in
    let by = λ (group : List ℕ). MustGrantNamed s.timeline.now (λ x. Means AsGroup x group) link.way link.role_place link.binding_place s.who.now s.attrs.now in
    subst (λ l. LastsFor (λ (r b : ℕ). MustGrantInWay s.timeline.now link.way r b s.who.now s.attrs.now) (Any by l) link.role_place link.binding_place s.high c.loop-group.farthest)
    (take_all c.loop-group.group-index c.args.groups.now c.loop-group-test.false) c.loop-group.invariant
