use Rattle.std.proofs.Common.{◌≡◌, ◌<◌, length, get_or, Some, Ok, sym, ap, subst, ◌∙◌}
use Rattle.std.specs.Prelude.{remove}
use Rattle.base_types.specs.Meaning.{items, kids_of}
use Rattle.json_patch.specs.Edits.{IsEdited}
use Rattle.json_patch.specs.Joined.{joined, number_of}
use Rattle.json_patch.specs.declared.edit.Edit.TheVariants.{Remove}
use Rattle.json_patch.proofs.Finding.{found_place, found_number}
use Rattle.json_patch.proofs.Joins.{number_within}
use Rattle.json_patch.proofs.Paths.{items_removed, item_there}
use Rattle.json_patch.proofs.Sizes.{item_removed}
use Rattle.json_patch.proofs.edit.remove_item.Goals as goal

pub returns-in-Some-clause-done : goal.returns-in-Some-clause-done
returns-in-Some-clause-done c =
    let all = c.args.list.now in
    let parts = c.list.inside.parts.items in
    let place = c.in-Some.place in
    let found = c.in_ok-place in
    let here = found_place c.deref.result.now parts found.field-0 place c.deref.ensures.value c.in-Some.is found.ensures.place in
    let number = found_number c.args.token.now c.deref.result.now parts found.field-0 place c.deref.ensures.value c.in-Some.is found.ensures.number in
    let within = subst (λ l. number_of parts place < length l) c.list.view_is (number_within parts place here) in
    let read = subst (λ l. c.remove_at.result ≡ get_or l (number_of parts place) c.remove_at.result) c.list.view_is c.remove_at.ensures.value in
    items_removed c.args.token.now all (number_of parts place) c.remove_at.result number within read
    ∙ ap (λ l. Ok (items (kids_of (remove l (number_of parts place))))) (sym c.list.view_is) ∙ ap (λ l. Ok (items (kids_of l))) (sym c.remove_at.ensures.items)

pub returns-in-Some-clause-taken : goal.returns-in-Some-clause-taken
returns-in-Some-clause-taken c =
    let parts = c.list.inside.parts.items in
    let place = c.in-Some.place in
    let found = c.in_ok-place in
    let here = found_place c.deref.result.now parts found.field-0 place c.deref.ensures.value c.in-Some.is found.ensures.place in
    let number = found_number c.args.token.now c.deref.result.now parts found.field-0 place c.deref.ensures.value c.in-Some.is found.ensures.number in
    let within = subst (λ l. number_of parts place < length l) c.list.view_is (number_within parts place here) in
    let read = subst (λ l. c.remove_at.result ≡ get_or l (number_of parts place) c.remove_at.result) c.list.view_is c.remove_at.ensures.value in
    item_there c.args.token.now c.args.list.now (number_of parts place) c.remove_at.result number within read

pub returns-in-Some-clause-size : goal.returns-in-Some-clause-size
returns-in-Some-clause-size c =
    let parts = c.list.inside.parts.items in
    let place = c.in-Some.place in
    let found = c.in_ok-place in
    let n = number_of parts place in
    let old = c.remove_at.result in
    let here = found_place c.deref.result.now parts found.field-0 place c.deref.ensures.value c.in-Some.is found.ensures.place in
    let removed = subst (λ l. IsEdited Remove 1 (items (kids_of (joined parts))) (items (kids_of l)) (Some old)) (sym c.remove_at.ensures.items)
    (item_removed (joined parts) n old (number_within parts place here) c.remove_at.ensures.value) in
    subst (λ l. IsEdited Remove 1 (items (kids_of l)) (items (kids_of (joined c.remove_at.new.parts.items))) (Some old)) c.list.view_is removed
