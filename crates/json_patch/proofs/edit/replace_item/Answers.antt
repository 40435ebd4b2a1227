use Rattle.std.proofs.Common.{◌≡◌, ◌<◌, length, get_or, set, Some, Ok, sym, ap, subst, ◌∙◌}
use Rattle.base_types.specs.Meaning.{items, kids_of}
use Rattle.json_patch.specs.Edits.{IsEdited}
use Rattle.json_patch.specs.Joined.{joined, number_of}
use Rattle.json_patch.specs.declared.edit.Edit.TheVariants.{Replace}
use Rattle.json_patch.proofs.Finding.{found_place, found_number}
use Rattle.json_patch.proofs.Joins.{number_within}
use Rattle.json_patch.proofs.Paths.{items_replaced}
use Rattle.json_patch.proofs.Sizes.{item_replaced}
use Rattle.json_patch.proofs.edit.replace_item.Goals as goal

pub returns-in-Some-clause-done : goal.returns-in-Some-clause-done
returns-in-Some-clause-done c =
    let all = c.args.list.now in
    let view = c.list.view_is in
    let parts = c.list.inside.parts.items in
    let place = c.in-Some.place in
    let found = c.in_ok-place in
    let old = c.replace_at.result in
    let here = found_place c.deref.result.now parts found.field-0 place c.deref.ensures.value c.in-Some.is found.ensures.place in
    let number = found_number c.args.token.now c.deref.result.now parts found.field-0 place c.deref.ensures.value c.in-Some.is found.ensures.number in
    let within = subst (λ l. number_of parts place < length l) view (number_within parts place here) in
    let read = subst (λ l. old ≡ get_or l (number_of parts place) old) view c.replace_at.ensures.value in
    items_replaced c.args.token.now all (number_of parts place) old c.args.value number within read ∙ ap (λ l. Ok (items (kids_of (set l (number_of parts place) c.args.value)))) (sym view)
    ∙ ap (λ l. Ok (items (kids_of l))) (sym c.replace_at.ensures.items)

pub returns-in-Some-clause-size : goal.returns-in-Some-clause-size
returns-in-Some-clause-size c =
    let parts = c.list.inside.parts.items in
    let place = c.in-Some.place in
    let found = c.in_ok-place in
    let n = number_of parts place in
    let old = c.replace_at.result in
    let new = c.args.value in
    let here = found_place c.deref.result.now parts found.field-0 place c.deref.ensures.value c.in-Some.is found.ensures.place in
    let replaced = subst (λ l. IsEdited (Replace new) 1 (items (kids_of (joined parts))) (items (kids_of l)) (Some old)) (sym c.replace_at.ensures.items)
    (item_replaced (joined parts) n old new (number_within parts place here) c.replace_at.ensures.value) in
    subst (λ l. IsEdited (Replace new) 1 (items (kids_of l)) (items (kids_of (joined c.replace_at.new.parts.items))) (Some old)) c.list.view_is replaced
