use Rattle.std.proofs.Common.{◌≡◌, ap, subst, ◌∙◌, codes}
use Rattle.std.specs.Prelude.{OnOk}
use Rattle.cluster_setup.specs.Files.{word}
use Rattle.cluster_setup.specs.Found.{found_for}
use Rattle.cluster_setup.proofs.Added.{objects_added}
use Rattle.cluster_setup.proofs.objects.add_objects.Goals as goal

pub returns : goal.returns
returns c =
    let f = c.in-Some.found in
    subst (λ all. OnOk c.add_items.result (c.add_items.new.objects.items ≡ all))
    (objects_added c.args.objects.now.items c.args.list.now f.document.now f.entry.now c.group_of.result.now c.word-name.result.now c.word-kind.result.now c.word-version.result.now
    c.listed.result.now (found_for c.args.sources.now c.args.list.now) c.group_of.ensures (c.word-version.ensures ∙ ap (word (codes "groupVersion")) c.tree.ensures) c.word-name.ensures c.word-kind.ensures c.listed.ensures c.in-Some.ensures)
    c.add_items.ensures
