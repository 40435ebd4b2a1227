use Rattle.std.proofs.Common.{◌≡◌, ℕ, List, ◌∷◌, ◌+◌, length, get_or, set, Some, Ok, Err, sym, ap, subst, ◌∙◌}
use Rattle.std.proofs.lemmas.Result.{IfOk-weaker, IfErr-weaker}
use Rattle.base_types.specs.Meaning.{Meaning, items, members, kids_of, fields_of}
use Rattle.base_types.specs.Pointers.{index_of, pointed}
use Rattle.base_types.proofs.Ordered.{lookup_absent}
use Rattle.json_patch.specs.Edits.{edited, RefusedBy, IsTaken, IsEdited}
use Rattle.json_patch.specs.Joined.{joined, IsPlaceIn, number_of}
use Rattle.json_patch.proofs.Finding.{found_place, found_number, place_there, place_written, named_there, named_written, named_sorted, found_named, found_absent}
use Rattle.json_patch.proofs.Joins.{number_within, read_at, written_at}
use Rattle.json_patch.proofs.Paths.{done_below, refused_below, pointed_below, edited_missing, levelled}
use Rattle.json_patch.proofs.Sizes.{edited_items, edited_members}
use Rattle.json_patch.proofs.edit.+edit_at.Goals as goal

pub edit_below_items-returns-in-Some-clause-done : goal.edit_below_items-returns-in-Some-clause-done
edit_below_items-returns-in-Some-clause-done t c =
    let all = c.args.list.now in
    let parts = c.list.inside.parts.items in
    let place = c.in-Some.place in
    let part = c.part.inside.all.items in
    let child = c.index_mut.result.now in
    let found = c.in_ok-place in
    let here = found_place c.deref.result.now parts found.field-0 place c.deref.ensures.value c.in-Some.is found.ensures.place in
    let number = subst (λ token. index_of token ≡ Some (number_of parts place)) c.as_str.ensures.value (found_number c.as_str.result.now c.deref.result.now parts found.field-0 place c.deref.ensures.value c.in-Some.is found.ensures.number) in
    let is = subst (λ p. p ≡ get_or parts place.part p) (sym c.part.view_is) c.index_mut-part.ensures.value in
    let there = place_there c.args.first.now parts all place part child c.list.view_is here number is c.index_mut.ensures.value in
    let whole = place_written c.args.first.now parts all place part c.edit_at.new.tree c.list.view_is here number is in
    IfOk-weaker c.edit_at.result (λ left. edited c.args.next.now c.args.after.now c.args.edit child ≡ Ok c.edit_at.new.tree) _
    (λ left inner. done_below c.args.first.now c.args.next.now c.args.after.now c.args.edit (items (kids_of all)) child c.edit_at.new.tree _ there inner whole) c.edit_at.ensures.done

pub edit_below_items-returns-in-Some-clause-taken : goal.edit_below_items-returns-in-Some-clause-taken
edit_below_items-returns-in-Some-clause-taken t c =
    let all = c.args.list.now in
    let parts = c.list.inside.parts.items in
    let place = c.in-Some.place in
    let part = c.part.inside.all.items in
    let child = c.index_mut.result.now in
    let found = c.in_ok-place in
    let here = found_place c.deref.result.now parts found.field-0 place c.deref.ensures.value c.in-Some.is found.ensures.place in
    let number = subst (λ token. index_of token ≡ Some (number_of parts place)) c.as_str.ensures.value (found_number c.as_str.result.now c.deref.result.now parts found.field-0 place c.deref.ensures.value c.in-Some.is found.ensures.number) in
    let is = subst (λ p. p ≡ get_or parts place.part p) (sym c.part.view_is) c.index_mut-part.ensures.value in
    let there = place_there c.args.first.now parts all place part child c.list.view_is here number is c.index_mut.ensures.value in
    let below = pointed_below c.args.first.now c.args.next.now c.args.after.now (items (kids_of all)) child there in
    IfOk-weaker c.edit_at.result (λ left. IsTaken c.args.edit left (pointed (c.args.next.now ∷ c.args.after.now) child)) _
    (λ left inner. subst (IsTaken c.args.edit left) below inner) c.edit_at.ensures.taken

pub edit_below_items-returns-in-Some-clause-size : goal.edit_below_items-returns-in-Some-clause-size
edit_below_items-returns-in-Some-clause-size t c =
    let parts = c.list.inside.parts.items in
    let place = c.in-Some.place in
    let part = c.part.inside.all.items in
    let child = c.index_mut.result.now in
    let new = c.edit_at.new.tree in
    let n = number_of parts place in
    let found = c.in_ok-place in
    let here = found_place c.deref.result.now parts found.field-0 place c.deref.ensures.value c.in-Some.is found.ensures.place in
    let is = subst (λ p. p ≡ get_or parts place.part p) (sym c.part.view_is) c.index_mut-part.ensures.value in
    let read = read_at parts place part child here is c.index_mut.ensures.value in
    let written = written_at parts place part new here is in
    IfOk-weaker c.edit_at.result (IsEdited c.args.edit (1 + length c.args.after.now) child new) _
    (λ left inner. levelled (λ n. IsEdited c.args.edit n (items (kids_of c.args.list.now)) (items (kids_of (joined (set parts place.part (set part place.offset new))))) left) (length c.args.after.now)
    (subst (λ l. IsEdited c.args.edit (1 + (1 + length c.args.after.now)) (items (kids_of l)) (items (kids_of (joined (set parts place.part (set part place.offset new))))) left) c.list.view_is
    (subst (λ l. IsEdited c.args.edit (1 + (1 + length c.args.after.now)) (items (kids_of (joined parts))) (items (kids_of l)) left) (sym written)
    (edited_items c.args.edit (1 + length c.args.after.now) (joined parts) n child new left (number_within parts place here) read inner)))) c.edit_at.ensures.size

pub edit_below_items-returns-in-Some-clause-refused : goal.edit_below_items-returns-in-Some-clause-refused
edit_below_items-returns-in-Some-clause-refused t c =
    let all = c.args.list.now in
    let parts = c.list.inside.parts.items in
    let place = c.in-Some.place in
    let part = c.part.inside.all.items in
    let child = c.index_mut.result.now in
    let found = c.in_ok-place in
    let here = found_place c.deref.result.now parts found.field-0 place c.deref.ensures.value c.in-Some.is found.ensures.place in
    let number = subst (λ token. index_of token ≡ Some (number_of parts place)) c.as_str.ensures.value (found_number c.as_str.result.now c.deref.result.now parts found.field-0 place c.deref.ensures.value c.in-Some.is found.ensures.number) in
    let is = subst (λ p. p ≡ get_or parts place.part p) (sym c.part.view_is) c.index_mut-part.ensures.value in
    let there = place_there c.args.first.now parts all place part child c.list.view_is here number is c.index_mut.ensures.value in
    IfErr-weaker c.edit_at.result (RefusedBy (edited c.args.next.now c.args.after.now c.args.edit child)) _
    (λ refusal inner. refused_below c.args.first.now c.args.next.now c.args.after.now c.args.edit (items (kids_of all)) child refusal there inner) c.edit_at.ensures.refused

pub edit_below_members-invariant_of-list : goal.edit_below_members-invariant_of-list
edit_below_members-invariant_of-list t c =
    let parts = c.list.inside.parts.items in
    let place = c.in-Ok.place in
    let part = c.part.inside.all.items in
    let m : List ℕ × Meaning = (c.member.inside.name, c.member.inside.value) in
    let here = subst (λ ps. IsPlaceIn ps place) c.deref.ensures.value c.in-Ok.ensures.place in
    let named = found_named c.as_str.result.now c.args.first.now c.deref.result.now parts place c.deref.ensures.value c.as_str.ensures.value c.in-Ok.ensures.named in
    let is = subst (λ p. p ≡ get_or parts place.part p) (sym c.part.view_is) c.index_mut-part.ensures.value in
    let read : m ≡ get_or part place.offset m = subst (λ x. x ≡ get_or part place.offset x) (sym c.member.view_is) c.index_mut-member.ensures.value in
    named_sorted c.args.first.now parts place part m c.edit_at.new.tree c.list.invariant here named is read

pub edit_below_members-returns-in-Ok-clause-done : goal.edit_below_members-returns-in-Ok-clause-done
edit_below_members-returns-in-Ok-clause-done t c =
    let parts = c.list.inside.parts.items in
    let place = c.in-Ok.place in
    let part = c.part.inside.all.items in
    let m : List ℕ × Meaning = (c.member.inside.name, c.member.inside.value) in
    let here = subst (λ ps. IsPlaceIn ps place) c.deref.ensures.value c.in-Ok.ensures.place in
    let named = found_named c.as_str.result.now c.args.first.now c.deref.result.now parts place c.deref.ensures.value c.as_str.ensures.value c.in-Ok.ensures.named in
    let is = subst (λ p. p ≡ get_or parts place.part p) (sym c.part.view_is) c.index_mut-part.ensures.value in
    let read : m ≡ get_or part place.offset m = subst (λ x. x ≡ get_or part place.offset x) (sym c.member.view_is) c.index_mut-member.ensures.value in
    let there = named_there c.args.first.now parts c.args.list.now place part m c.list.view_is c.list.invariant here named is read in
    let whole = named_written c.args.first.now parts c.args.list.now place part m c.edit_at.new.tree c.list.view_is c.list.invariant here named is read in
    IfOk-weaker c.edit_at.result (λ left. edited c.args.next.now c.args.after.now c.args.edit c.member.inside.value ≡ Ok c.edit_at.new.tree) _
    (λ left inner. done_below c.args.first.now c.args.next.now c.args.after.now c.args.edit (members (fields_of c.args.list.now)) c.member.inside.value c.edit_at.new.tree _ there inner whole) c.edit_at.ensures.done

pub edit_below_members-returns-in-Ok-clause-taken : goal.edit_below_members-returns-in-Ok-clause-taken
edit_below_members-returns-in-Ok-clause-taken t c =
    let parts = c.list.inside.parts.items in
    let place = c.in-Ok.place in
    let part = c.part.inside.all.items in
    let m : List ℕ × Meaning = (c.member.inside.name, c.member.inside.value) in
    let here = subst (λ ps. IsPlaceIn ps place) c.deref.ensures.value c.in-Ok.ensures.place in
    let named = found_named c.as_str.result.now c.args.first.now c.deref.result.now parts place c.deref.ensures.value c.as_str.ensures.value c.in-Ok.ensures.named in
    let is = subst (λ p. p ≡ get_or parts place.part p) (sym c.part.view_is) c.index_mut-part.ensures.value in
    let read : m ≡ get_or part place.offset m = subst (λ x. x ≡ get_or part place.offset x) (sym c.member.view_is) c.index_mut-member.ensures.value in
    let there = named_there c.args.first.now parts c.args.list.now place part m c.list.view_is c.list.invariant here named is read in
    let below = pointed_below c.args.first.now c.args.next.now c.args.after.now (members (fields_of c.args.list.now)) c.member.inside.value there in
    IfOk-weaker c.edit_at.result (λ left. IsTaken c.args.edit left (pointed (c.args.next.now ∷ c.args.after.now) c.member.inside.value)) _
    (λ left inner. subst (IsTaken c.args.edit left) below inner) c.edit_at.ensures.taken

pub edit_below_members-returns-in-Ok-clause-size : goal.edit_below_members-returns-in-Ok-clause-size
edit_below_members-returns-in-Ok-clause-size t c =
    let parts = c.list.inside.parts.items in
    let place = c.in-Ok.place in
    let part = c.part.inside.all.items in
    let m : List ℕ × Meaning = (c.member.inside.name, c.member.inside.value) in
    let here = subst (λ ps. IsPlaceIn ps place) c.deref.ensures.value c.in-Ok.ensures.place in
    let named = found_named c.as_str.result.now c.args.first.now c.deref.result.now parts place c.deref.ensures.value c.as_str.ensures.value c.in-Ok.ensures.named in
    let is = subst (λ p. p ≡ get_or parts place.part p) (sym c.part.view_is) c.index_mut-part.ensures.value in
    let read : m ≡ get_or part place.offset m = subst (λ x. x ≡ get_or part place.offset x) (sym c.member.view_is) c.index_mut-member.ensures.value in
    let new = c.edit_at.new.tree in
    let n = number_of parts place in
    let whole = set parts place.part (set part place.offset (c.member.inside.name, new)) in
    let written = written_at parts place part (c.member.inside.name, new) here is in
    IfOk-weaker c.edit_at.result (IsEdited c.args.edit (1 + length c.args.after.now) c.member.inside.value new) _
    (λ left inner. levelled (λ n. IsEdited c.args.edit n (members (fields_of c.args.list.now)) (members (fields_of (joined whole))) left) (length c.args.after.now)
    (subst (λ l. IsEdited c.args.edit (1 + (1 + length c.args.after.now)) (members (fields_of l)) (members (fields_of (joined whole))) left) c.list.view_is
    (subst (λ l. IsEdited c.args.edit (1 + (1 + length c.args.after.now)) (members (fields_of (joined parts))) (members (fields_of l)) left) (sym written)
    (edited_members c.args.edit (1 + length c.args.after.now) (joined parts) n m new left (number_within parts place here) (read_at parts place part m here is read) inner)))) c.edit_at.ensures.size

pub edit_below_members-returns-in-Ok-clause-refused : goal.edit_below_members-returns-in-Ok-clause-refused
edit_below_members-returns-in-Ok-clause-refused t c =
    let parts = c.list.inside.parts.items in
    let place = c.in-Ok.place in
    let part = c.part.inside.all.items in
    let m : List ℕ × Meaning = (c.member.inside.name, c.member.inside.value) in
    let here = subst (λ ps. IsPlaceIn ps place) c.deref.ensures.value c.in-Ok.ensures.place in
    let named = found_named c.as_str.result.now c.args.first.now c.deref.result.now parts place c.deref.ensures.value c.as_str.ensures.value c.in-Ok.ensures.named in
    let is = subst (λ p. p ≡ get_or parts place.part p) (sym c.part.view_is) c.index_mut-part.ensures.value in
    let read : m ≡ get_or part place.offset m = subst (λ x. x ≡ get_or part place.offset x) (sym c.member.view_is) c.index_mut-member.ensures.value in
    let there = named_there c.args.first.now parts c.args.list.now place part m c.list.view_is c.list.invariant here named is read in
    IfErr-weaker c.edit_at.result (RefusedBy (edited c.args.next.now c.args.after.now c.args.edit c.member.inside.value)) _
    (λ refusal inner. refused_below c.args.first.now c.args.next.now c.args.after.now c.args.edit (members (fields_of c.args.list.now)) c.member.inside.value refusal there inner) c.edit_at.ensures.refused

pub edit_below_members-returns-in-Err-clause-refused : goal.edit_below_members-returns-in-Err-clause-refused
edit_below_members-returns-in-Err-clause-refused t c =
    let place = c.in-Err.field-0 in
    let absent = found_absent c.as_str.result.now c.args.first.now c.deref.result.now c.list.inside.parts.items c.args.list.now place c.deref.ensures.value c.list.view_is c.as_str.ensures.value c.in-Err.ensures.absent in
    edited_missing c.args.first.now c.args.next.now c.args.after.now c.args.edit (members (fields_of c.args.list.now)) (lookup_absent c.args.list.now c.args.first.now (number_of c.deref.result.now place) absent)
    ∙ ap Err (sym c.missing.ensures)
