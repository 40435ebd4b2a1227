use Rattle.std.proofs.Common.{[], get_or, set, sym, ap, ◌∙◌}
use Rattle.std.specs.Prelude.{remove}
use Rattle.std.proofs.lemmas.List.{get_or_read}
use Rattle.json_patch.specs.Joined.{joined}
use Rattle.json_patch.proofs.Joins.{place_read, place_removed}
use Rattle.json_patch.proofs.chunks.remove_at.Goals as goal

pub returns-clause-value : goal.returns-clause-value
returns-clause-value c =
    let parts = c.args.parts.now.items in
    let place = c.args.place in
    let read = get_or_read parts place.part c.index_mut-part.result.now c.requires.part c.index_mut-part.ensures.value [] in
    c.remove.ensures.value ∙ ap (λ p. get_or p place.offset c.remove.result) read ∙ sym (place_read parts place.part place.offset c.remove.result c.requires.part c.requires.offset)

pub returns-clause-items : goal.returns-clause-items
returns-clause-items c =
    let parts = c.args.parts.now.items in
    let place = c.args.place in
    let read = get_or_read parts place.part c.index_mut-part.result.now c.requires.part c.index_mut-part.ensures.value [] in
    ap (λ p. joined (set parts place.part p)) (c.remove.ensures.items ∙ ap (λ p. remove p place.offset) read) ∙ place_removed parts place.part place.offset c.requires.part c.requires.offset
