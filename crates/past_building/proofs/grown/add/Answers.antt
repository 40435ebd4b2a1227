use Rattle.std.proofs.Common.{◌++◌, ◌∷◌, [], ◌<◌, sym, ap, ◌∙◌, subst}
use Rattle.std.proofs.lemmas.Result.{on_ok_weaker}
use Rattle.std.specs.Prelude.{All}
use Rattle.object_past.specs.declared.version.Version.{Version}
use Rattle.past_building.specs.Growing.{AreVersionsKept}
use Rattle.past_building.proofs.grown.add.Goals as goal

pub add-requires-clause-kept : goal.add-requires-clause-kept
add-requires-clause-kept c =
    let index = c.args.index.now in
    subst (λ l. AreVersionsKept l index.firsts.items index.earlier.items index.last index.owners index.uids) (sym c.as_slice.ensures) c.requires.kept

pub add-requires-clause-above : goal.add-requires-clause-above
add-requires-clause-above c = subst (All (λ (v : Version). v.revision < c.args.version.revision)) (sym c.as_slice.ensures) c.requires.above

pub returns-clause-kept : goal.returns-clause-kept
returns-clause-kept c =
    let index = c.add.new.self in
    on_ok_weaker c.push.result
    (λ pushed. subst (λ l. AreVersionsKept l index.firsts.items index.earlier.items index.last index.owners index.uids) (ap (λ l. l ++ c.args.version ∷ []) c.as_slice.ensures ∙ sym pushed) c.in_ok-add.ensures)
    c.push.ensures.ok
