use Rattle.std.proofs.Common.{◌≡◌, rules, sym, subst}
use Rattle.base_types.specs.Meaning.{members, fields_of}
use Rattle.base_types.specs.Names.{AreSorted}
use Rattle.base_types.proofs.Lists.{fields_list-fields_of}
use Rattle.request_bodies.specs.Patched.{IsOrdered}
use Rattle.request_bodies.proofs.patched.order_law.Goals as goal

pub returns-in-Members : goal.returns-in-Members
returns-in-Members c =
    let all = c.in-Members.list in
    let is : c.args.tree.now ≡ members (fields_of all) = search rules in
    subst IsOrdered (sym is) (subst AreSorted (sym (fields_list-fields_of all)) (subst AreSorted c.list.view_is c.list.invariant))
