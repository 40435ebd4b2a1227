use Rattle.std.proofs.Common.{◌≡◌, ℕ, List, get_or, Some, sym, ap, subst, ◌∙◌}
use Rattle.base_types.specs.Edits.{put}
use Rattle.base_types.specs.Meaning.{Meaning, fields_of}
use Rattle.base_types.specs.Names.{AreSorted}
use Rattle.base_types.proofs.Ordered.{lookup_absent}
use Rattle.base_types.proofs.Placing.{put_absent, sorted_inserted}
use Rattle.json_patch.specs.Joined.{joined, IsPlaceIn, number_of}
use Rattle.json_patch.proofs.Finding.{named_there, put_written, named_sorted, found_named, found_absent, absent_in}
use Rattle.json_patch.proofs.Naming.{none_sorted}
use Rattle.json_patch.proofs.draft.DraftMembers.put.Goals as goal

pub invariant_of-self : goal.invariant_of-self
invariant_of-self c =
    let parts = c.self.inside.parts.items in
    let place = c.in-Ok.place in
    let part = c.part.inside.all.items in
    let m : List ℕ × Meaning = (c.member.inside.name, c.member.inside.value) in
    let here = subst (λ ps. IsPlaceIn ps place) c.deref.ensures.value c.in-Ok.ensures.place in
    let named = found_named c.as_str.result.now c.args.name c.deref.result.now parts place c.deref.ensures.value c.as_str.ensures.value c.in-Ok.ensures.named in
    let is = subst (λ p. p ≡ get_or parts place.part p) (sym c.part.view_is) c.index_mut-part.ensures.value in
    let read : m ≡ get_or part place.offset m = subst (λ x. x ≡ get_or part place.offset x) (sym c.member.view_is) c.index_mut-member.ensures.value in
    named_sorted c.args.name parts place part m c.replace.new.dest c.self.invariant here named is read

pub returns-in-Ok-clause-put : goal.returns-in-Ok-clause-put
returns-in-Ok-clause-put c =
    let parts = c.self.inside.parts.items in
    let place = c.in-Ok.place in
    let part = c.part.inside.all.items in
    let m : List ℕ × Meaning = (c.member.inside.name, c.member.inside.value) in
    let here = subst (λ ps. IsPlaceIn ps place) c.deref.ensures.value c.in-Ok.ensures.place in
    let named = found_named c.as_str.result.now c.args.name c.deref.result.now parts place c.deref.ensures.value c.as_str.ensures.value c.in-Ok.ensures.named in
    let is = subst (λ p. p ≡ get_or parts place.part p) (sym c.part.view_is) c.index_mut-part.ensures.value in
    let read : m ≡ get_or part place.offset m = subst (λ x. x ≡ get_or part place.offset x) (sym c.member.view_is) c.index_mut-member.ensures.value in
    put_written c.args.name parts c.args.self.now place part m c.replace.new.dest c.self.view_is c.self.invariant here named is read
    ∙ ap (λ t. put c.args.name t (fields_of c.args.self.now)) c.replace.ensures.after

pub returns-in-Ok-clause-old : goal.returns-in-Ok-clause-old
returns-in-Ok-clause-old c =
    let parts = c.self.inside.parts.items in
    let place = c.in-Ok.place in
    let part = c.part.inside.all.items in
    let m : List ℕ × Meaning = (c.member.inside.name, c.member.inside.value) in
    let here = subst (λ ps. IsPlaceIn ps place) c.deref.ensures.value c.in-Ok.ensures.place in
    let named = found_named c.as_str.result.now c.args.name c.deref.result.now parts place c.deref.ensures.value c.as_str.ensures.value c.in-Ok.ensures.named in
    let is = subst (λ p. p ≡ get_or parts place.part p) (sym c.part.view_is) c.index_mut-part.ensures.value in
    let read : m ≡ get_or part place.offset m = subst (λ x. x ≡ get_or part place.offset x) (sym c.member.view_is) c.index_mut-member.ensures.value in
    ap Some c.replace.ensures.value ∙ sym (named_there c.args.name parts c.args.self.now place part m c.self.view_is c.self.invariant here named is read)

pub invariant_of-self-in_err-insert-in-Err : goal.invariant_of-self-in_err-insert-in-Err
invariant_of-self-in_err-insert-in-Err c = none_sorted c.replace-parts.new.dest.items (ap (λ v. v.items) c.replace-parts.ensures.after ∙ c.new.ensures.items)

pub invariant_of-self-in-Err : goal.invariant_of-self-in-Err
invariant_of-self-in-Err c =
    let parts = c.replace-parts.result.items in
    let place = c.in-Err.place in
    let same : parts ≡ c.self.inside.parts.items = ap (λ v. v.items) c.replace-parts.ensures.value in
    let sorted = subst (λ ps. AreSorted (joined ps)) (sym same) c.self.invariant in
    let there = absent_in c.as_str.result.now c.args.name c.deref.result.now parts place (c.deref.ensures.value ∙ sym same) c.as_str.ensures.value c.in-Err.ensures.absent in
    subst AreSorted (sym c.in_ok-insert-in-Err.ensures) (sorted_inserted c.args.name c.args.value (joined parts) (number_of parts place) sorted there)

pub returns-in_ok-insert-in-Err-clause-put : goal.returns-in_ok-insert-in-Err-clause-put
returns-in_ok-insert-in-Err-clause-put c =
    let parts = c.replace-parts.result.items in
    let place = c.in-Err.place in
    let same : parts ≡ c.self.inside.parts.items = ap (λ v. v.items) c.replace-parts.ensures.value in
    let there = absent_in c.as_str.result.now c.args.name c.deref.result.now parts place (c.deref.ensures.value ∙ sym same) c.as_str.ensures.value c.in-Err.ensures.absent in
    ap fields_of c.in_ok-insert-in-Err.ensures ∙ sym (put_absent c.args.name c.args.value (joined parts) (number_of parts place) there)
    ∙ ap (λ ps. put c.args.name c.args.value (fields_of (joined ps))) same ∙ ap (λ l. put c.args.name c.args.value (fields_of l)) c.self.view_is

pub returns-in_ok-insert-in-Err-clause-old : goal.returns-in_ok-insert-in-Err-clause-old
returns-in_ok-insert-in-Err-clause-old c =
    let absent = found_absent c.as_str.result.now c.args.name c.deref.result.now c.self.inside.parts.items c.args.self.now c.in-Err.place c.deref.ensures.value c.self.view_is c.as_str.ensures.value c.in-Err.ensures.absent in
    sym (lookup_absent c.args.self.now c.args.name (number_of c.deref.result.now c.in-Err.place) absent)
