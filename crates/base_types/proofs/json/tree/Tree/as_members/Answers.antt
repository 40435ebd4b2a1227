use Rattle.std.proofs.Common.{◌≡◌, Some, sym, ap, ◌∙◌}
use Rattle.base_types.specs.Meaning.{members, fields_of}
use Rattle.base_types.specs.Node.{meaning_of}
use Rattle.base_types.specs.Parts.{members_of}
use Rattle.base_types.proofs.Lists.{fields_list-fields_of}
use Rattle.base_types.proofs.json.tree.Tree.as_members.Goals as goal

pub returns-in-Members : goal.returns-in-Members
returns-in-Members c =
    let list = c.in-Members.list in
    let is : c.args.self.now ≡ members (fields_of list) = sym c.self.view_is ∙ ap meaning_of c.in-Members.is in
    ap Some (sym (fields_list-fields_of list)) ∙ ap members_of (sym is)
