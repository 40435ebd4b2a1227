use Rattle.std.proofs.Common.{◌≡◌, Some, sym, ap, ◌∙◌}
use Rattle.base_types.specs.Meaning.{items, kids_of}
use Rattle.base_types.specs.Node.{meaning_of}
use Rattle.base_types.specs.Parts.{items_of}
use Rattle.base_types.proofs.Lists.{kids_list-kids_of}
use Rattle.base_types.proofs.json.tree.Tree.as_items.Goals as goal

pub returns-in-Items : goal.returns-in-Items
returns-in-Items c =
    let list = c.in-Items.list in
    let is : c.args.self.now ≡ items (kids_of list) = sym c.self.view_is ∙ ap meaning_of c.in-Items.is in
    ap Some (sym (kids_list-kids_of list)) ∙ ap items_of (sym is)
