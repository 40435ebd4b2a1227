use Rattle.std.proofs.Common.{◌≡◌, ◌-◌, ◌<◌, Some, length, set, slice_get, ap, subst, refl, arith}
use Rattle.std.specs.Vec.{vec_len}
use Rattle.std.proofs.lemmas.Option.{slice_get_read}
use Rattle.object_past.specs.Incarnated.{continued}
use Rattle.object_past.specs.Incarnated.IsExtended.{continues}
use Rattle.object_past.proofs.incarnation.go_on.Goals as goal

pub returns-clause-yes : goal.returns-clause-yes
returns-clause-yes c = λ ok.
    let items = c.args.incarnations.now.items in
    let last = c.in-Some.last.now in
    let long = c.args.incarnations.now.ok.0 in
    let some : 0 < vec_len c.args.incarnations.now = c.in-Some.ensures.variant.0 refl in
    let place : vec_len c.args.incarnations.now - 1 ≡ length items - 1 = omega arith in
    let at : slice_get items (vec_len c.args.incarnations.now - 1) ≡ Some last = slice_get_read items (length items) _ last refl (omega arith) c.in-Some.ensures.value in
    continues last (subst (λ n. slice_get items n ≡ Some last) place at) (c.has_uid.ensures.0 c.if-not-has_uid.false)
    (ap (λ n. set items n (continued last c.args.version.now c.args.range)) place)
