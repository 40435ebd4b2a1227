use Rattle.std.proofs.Common.{◌≡◌, subst, ◌∙◌, ap, codes}
use Rattle.std.specs.Prelude.{OnOk}
use Rattle.base_types.specs.Meaning.{fields_of}
use Rattle.cluster_setup.specs.Files.{word}
use Rattle.cluster_setup.specs.Making.{is_namespaced, shapes_of, subresources_of}
use Rattle.cluster_setup.specs.Table.{patch_of}
use Rattle.cluster_setup.proofs.Ruled.{rules_put}
use Rattle.cluster_setup.proofs.entries.add_rules.Goals as goal

pub returns : goal.returns
returns c =
    let document = c.args.found.document.now in
    let entry = c.args.found.entry.now in
    let form = c.args.form in
    subst (λ all. OnOk c.put-3.result (fields_of c.put-3.new.fields ≡ all))
    (rules_put (fields_of c.args.fields.now) (fields_of c.put.new.fields) (fields_of c.say.new.fields) (fields_of c.put-2.new.fields)
    c.is_namespaced.result (is_namespaced entry) c.flag.result c.in_ok-shapes.shapes (shapes_of form) c.items.result c.patch_of.result.now (patch_of form)
    c.in_ok-subresources.subresources.items (subresources_of document (word (codes "name") entry) form)
    c.is_namespaced.ensures c.flag.ensures c.in_ok-put.ensures c.patch_of.ensures c.in_ok-say.ensures
    (c.in_ok-shapes.ensures ∙ c.shapes_of.ensures) c.in_ok-put-2.ensures
    (c.in_ok-subresources.ensures ∙ ap (λ name. subresources_of document name form) c.word.ensures) c.items.ensures)
    c.put-3.ensures
