use Rattle.std.proofs.Common.{ℕ, ◌≤◌, ⊎_elim, arith}
use Rattle.std.proofs.lemmas.Bool.{both_ways}
use Rattle.rbac_timeline.specs.Reigning.{AsUser, Means}
use Rattle.rbac_timeline.specs.Unsure.{last_place}
use Rattle.rbac_timeline.proofs.Subjects.{may_reigning, may_split}
use Rattle.rbac_timeline.proofs.timeline.Timeline.may_by_names.Goals as goal

pub returns-clause-full : goal.returns-clause-full
returns-clause-full c = λ may.
    let known = c.args.self.now in
    let link = c.args.link in
    let place : ℕ = link.binding_place in
    let same = c.bindings_at-place.ensures in
    let bound = c.bindings_at-place.type_inv in
    let fits : place ≤ last_place = omega arith in
    let by_groups = rw c.as_slice.ensures at c.may_by_groups.ensures.full in
    ⊎_elim
    (λ user. absurd (both_ways _ c.if-may_by_reigns.false (c.may_by_reigns.ensures.full (may_reigning known link.way place c.args.who.now c.args.attrs.now link.role_place (λ s. Means AsUser s c.args.who.now.name) _ fits
    c.user_reigns-reigns.ensures user))))
    (λ groups. by_groups groups)
    (may_split known link.way place c.args.who.now c.args.attrs.now link.role_place may)
