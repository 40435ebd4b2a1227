use Rattle.std.proofs.Common.{◌++◌, ◌∷◌, [], take, sym, ap, ◌∙◌}
use Rattle.std.proofs.lemmas.List.{take_more}
use Rattle.cluster_setup.proofs.documents.documents_of.Goals as goal

pub loop-tree-preserved : goal.loop-tree-preserved
loop-tree-preserved c =
    let front = take c.loop-tree.tree-index c.args.trees.now in
    c.in_ok-push.ensures.items ∙ ap (λ documents. documents ++ (c.in_ok-new.field-0 ∷ [])) c.loop-tree.invariant
    ∙ ap (λ document. front ++ (document ∷ [])) (c.in_ok-new.ensures ∙ c.tree-item.is)
    ∙ sym (take_more c.args.trees.now c.loop-tree.tree-index c.tree-item.result c.loop-tree-test.true)
