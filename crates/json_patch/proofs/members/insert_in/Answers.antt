use Rattle.std.proofs.Common.{[], set, ap, ◌∙◌}
use Rattle.std.specs.Prelude.{insert}
use Rattle.std.proofs.lemmas.List.{get_or_read}
use Rattle.std.proofs.lemmas.Result.{on_ok_weaker}
use Rattle.json_patch.specs.Joined.{joined}
use Rattle.json_patch.proofs.Joins.{gap_filled}
use Rattle.json_patch.proofs.members.insert_in.Goals as goal

pub returns-clause-members : goal.returns-clause-members
returns-clause-members c =
    let parts = c.args.parts.now.items in
    let place = c.args.place in
    let read = get_or_read parts place.part c.index_mut-part.result.now c.requires.part c.index_mut-part.ensures.value [] in
    on_ok_weaker c.insert.result
    (λ items. ap (λ p. joined (set parts place.part p)) (items ∙ ap (λ p. insert p place.offset c.args.member) read) ∙ gap_filled parts place.part place.offset c.args.member c.requires.part c.requires.offset) c.insert.ensures
