use Rattle.std.proofs.Common.{◌≤◌, subst, arith}
use Rattle.base_types.proofs.Quantifiers.{Any-contains}
use Rattle.rbac_timeline.specs.Kept.{MayGrantByListed}
use Rattle.rbac_timeline.specs.Known.{Known, writes_of}
use Rattle.rbac_timeline.specs.Unsure.{AreUnsure, last_place}
use Rattle.rbac_timeline.proofs.Clouding.{found_unsure, known_from_unsure}
use Rattle.rbac_timeline.proofs.timeline.Timeline.may_by_unsure.Goals as goal

pub returns-clause-sound : goal.returns-clause-sound
returns-clause-sound c = λ yes.
    let known = c.args.self.now in
    let are = subst (λ (k : Known). AreUnsure (writes_of k) k.versions k.spans c.self.inside.unsure) c.self.view_is c.self.invariant.unsure_ones in
    let test = rw (c.keys-keys.ensures, c.bindings.ensures) at c.some_may.ensures.0 in
    let any = test yes in
    (any.1, known_from_unsure known c.self.inside.unsure are c.args.link.way c.args.attrs.now any.1 (any.0, any.2, any.3), any.4)

pub returns-clause-full : goal.returns-clause-full
returns-clause-full c = λ may.
    let known = c.args.self.now in
    let are = subst (λ (k : Known). AreUnsure (writes_of k) k.versions k.spans c.self.inside.unsure) c.self.view_is c.self.invariant.unsure_ones in
    let test = rw (c.keys-keys.ensures, c.bindings.ensures) at c.some_may.ensures.1 in
    let at = c.bindings_at-place.ensures in
    let fits = c.bindings_at-place.type_inv in
    let bound : c.args.link.binding_place ≤ last_place = omega arith in
    test (Any-contains (MayGrantByListed known c.args.link.way c.args.link.role_place c.args.link.binding_place c.args.who.now c.args.attrs.now) _ may.0
    (found_unsure known c.self.inside.unsure are c.args.link.way c.args.attrs.now c.args.link.binding_place may.0 bound may.2.0 may.2.1 may.1) may.2)
