use Rattle.std.proofs.Common.{[], set, ap, ◌∙◌}
use Rattle.std.specs.Prelude.{insert}
use Rattle.std.proofs.lemmas.List.{get_or_read}
use Rattle.std.proofs.lemmas.Result.{on_ok_weaker}
use Rattle.json_patch.specs.Joined.{joined}
use Rattle.json_patch.proofs.Joins.{place_inserted}
use Rattle.json_patch.proofs.chunks.insert_in.Goals as goal

pub returns-clause-items : goal.returns-clause-items
returns-clause-items c =
    let parts = c.args.parts.now.items in
    let place = c.args.place in
    let read = get_or_read parts place.part c.index_mut-part.result.now c.requires.part c.index_mut-part.ensures.value [] in
    on_ok_weaker c.insert.result
    (λ items. ap (λ p. joined (set parts place.part p)) (items ∙ ap (λ p. insert p place.offset c.args.item) read) ∙ place_inserted parts place.part place.offset c.args.item c.requires.part c.requires.offset) c.insert.ensures
