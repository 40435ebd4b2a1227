use Rattle.std.proofs.Common.{◌≡◌, [], length, get_or, set, sym, ap, subst, ◌∙◌}
use Rattle.std.specs.Prelude.{remove}
use Rattle.std.proofs.lemmas.List.{get_or_read}
use Rattle.json_patch.specs.Joined.{joined}
use Rattle.json_patch.proofs.Joins.{place_read, place_removed, only_read, part_emptied, read_at}
use Rattle.json_patch.proofs.Naming.{found_in}
use Rattle.json_patch.proofs.members.remove_at.Goals as goal

pub returns-then-len-eq1-clause-value : goal.returns-then-len-eq1-clause-value
returns-then-len-eq1-clause-value c =
    let parts = c.args.parts.now.items in
    let place = c.args.place in
    let all = c.all.inside.all.items in
    let is = subst (λ p. p ≡ get_or parts place.part p) (sym c.all.view_is) c.remove.ensures.value in
    let one : length (get_or parts place.part []) ≡ 1 = ap length (sym (get_or_read parts place.part c.index.result.now c.requires.part c.index.ensures [])) ∙ sym c.len.ensures ∙ c.if-len-eq1.true in
    let long = ap length (get_or_read parts place.part all c.requires.part is []) ∙ one in
    let read = only_read all place.offset c.remove-then-len-eq1.result long (found_in parts place all c.requires is) c.remove-then-len-eq1.ensures.value in
    read_at parts place all c.remove-then-len-eq1.result c.requires is read

pub returns-then-len-eq1-clause-members : goal.returns-then-len-eq1-clause-members
returns-then-len-eq1-clause-members c =
    let parts = c.args.parts.now.items in
    let place = c.args.place in
    let one : length (get_or parts place.part []) ≡ 1 = ap length (sym (get_or_read parts place.part c.index.result.now c.requires.part c.index.ensures [])) ∙ sym c.len.ensures ∙ c.if-len-eq1.true in
    ap joined c.remove.ensures.items ∙ part_emptied parts place.part place.offset c.requires.part c.requires.offset one

pub returns-clause-value : goal.returns-clause-value
returns-clause-value c =
    let parts = c.args.parts.now.items in
    let place = c.args.place in
    let read = get_or_read parts place.part c.index_mut-part.result.now c.requires.part c.index_mut-part.ensures.value [] in
    c.remove-2.ensures.value ∙ ap (λ p. get_or p place.offset c.remove-2.result) read ∙ sym (place_read parts place.part place.offset c.remove-2.result c.requires.part c.requires.offset)

pub returns-clause-members : goal.returns-clause-members
returns-clause-members c =
    let parts = c.args.parts.now.items in
    let place = c.args.place in
    let read = get_or_read parts place.part c.index_mut-part.result.now c.requires.part c.index_mut-part.ensures.value [] in
    ap (λ p. joined (set parts place.part p)) (c.remove-2.ensures.members ∙ ap (λ p. remove p place.offset) read) ∙ place_removed parts place.part place.offset c.requires.part c.requires.offset
