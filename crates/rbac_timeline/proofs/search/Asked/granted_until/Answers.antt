use Rattle.std.proofs.Common.{ℕ, ◌≤◌, List, arith}
use Rattle.std.specs.List.{Any}
use Rattle.rbac_timeline.specs.Extents.{MustGrantInWay}
use Rattle.rbac_timeline.specs.Found.{MustGrantNamed, MustGrantReigning}
use Rattle.rbac_timeline.specs.Reigning.{AsGroup, AsUser, Means, found_reigns}
use Rattle.rbac_timeline.specs.Unsure.{last_place}
use Rattle.rbac_timeline.proofs.Partly.{LastsFor-farther, LastsFor-weaker, LastsUntil-from}
use Rattle.rbac_timeline.proofs.Subjects.{must_parts, must_reigning}
use Rattle.rbac_timeline.proofs.search.Asked.granted_until.Goals as goal

pub returns : goal.returns
returns c =
    let s = c.args.self.now in
    let known = s.timeline.now in
    let link = c.args.link in
    let place : ℕ = link.binding_place in
    let all = λ (r b : ℕ). MustGrantInWay known link.way r b s.who.now s.attrs.now in
    let by_user = MustGrantNamed known (λ x. Means AsUser x s.who.now.name) link.way link.role_place place s.who.now s.attrs.now in
    let by_groups = Any (λ (group : List ℕ). MustGrantNamed known (λ x. Means AsGroup x group) link.way link.role_place place s.who.now s.attrs.now) s.who.now.groups in
    let same = c.bindings_at-place.ensures in
    let bound = c.bindings_at-place.type_inv in
    let fits : place ≤ last_place = omega arith in
    let user = LastsFor-weaker all link.role_place place s.high (MustGrantReigning known link.way link.role_place place s.who.now s.attrs.now (found_reigns c.user_reigns-reigns.result)) by_user
    c.reigns_until-user.result (λ must. must_reigning known link.way place s.who.now s.attrs.now link.role_place (λ x. Means AsUser x s.who.now.name) _ fits c.user_reigns-reigns.ensures must) c.reigns_until-user.ensures in
    let groups = rw c.as_slice.ensures at c.groups_until.ensures in
    rw c.farther.ensures (LastsUntil-from all link.role_place place s.high (all link.role_place place) _ (λ must. must)
    (LastsFor-farther all link.role_place place s.high by_user by_groups (all link.role_place place) _ _
    (λ must. must_parts known link.way place s.who.now s.attrs.now link.role_place c.tell_sound.ensures must) user groups))
