use Rattle.std.proofs.Common.{◌≡◌, ℕ, List, get_or, refl, sym, subst}
use Rattle.base_types.specs.Meaning.{Meaning}
use Rattle.base_types.proofs.Ordered.{lookup_absent}
use Rattle.json_patch.specs.Joined.{IsPlaceIn, number_of}
use Rattle.json_patch.proofs.Finding.{named_there, found_named, found_absent}
use Rattle.json_patch.proofs.draft.DraftMembers.get.Goals as goal

pub returns-in-Ok : goal.returns-in-Ok
returns-in-Ok c =
    let parts = c.self.inside.parts.items in
    let place = c.in-Ok.place in
    let part = c.part.inside.all.items in
    let m : List ℕ × Meaning = (c.member.inside.name, c.member.inside.value) in
    let here = subst (λ ps. IsPlaceIn ps place) c.deref.ensures.value c.in-Ok.ensures.place in
    let named = found_named c.args.name.now c.args.name.now c.deref.result.now parts place c.deref.ensures.value refl c.in-Ok.ensures.named in
    let is = subst (λ p. p ≡ get_or parts place.part p) (sym c.part.view_is) c.index-part.ensures in
    let read : m ≡ get_or part place.offset m = subst (λ x. x ≡ get_or part place.offset x) (sym c.member.view_is) c.index-member.ensures in
    sym (named_there c.args.name.now parts c.args.self.now place part m c.self.view_is c.self.invariant here named is read)

pub returns-in-Err : goal.returns-in-Err
returns-in-Err c =
    let absent = found_absent c.args.name.now c.args.name.now c.deref.result.now c.self.inside.parts.items c.args.self.now c.in-Err.field-0 c.deref.ensures.value c.self.view_is refl c.in-Err.ensures.absent in
    sym (lookup_absent c.args.self.now c.args.name.now (number_of c.deref.result.now c.in-Err.field-0) absent)
