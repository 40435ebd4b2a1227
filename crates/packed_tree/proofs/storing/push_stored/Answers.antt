use Rattle.std.proofs.Common.{◌≡◌, ◌++◌, ap, sym, subst}
use Rattle.std.specs.Prelude.{OnOk}
use Rattle.packed_tree.specs.Encoding.{encode}
use Rattle.packed_tree.proofs.StoredForms.{object_stored, stored_flat}
use Rattle.packed_tree.proofs.storing.push_stored.Goals as goal

pub returns-in_ok-push-in-Some : goal.returns-in_ok-push-in-Some
returns-in_ok-push-in-Some c =
    let whole = object_stored c.args.value.now c.in-Some.list c.args.out.now.items c.push.new.self.items c.in-Some.ensures c.in_ok-push-in-Some.ensures.items in
    subst (λ xs. OnOk c.push_stored_members.result (c.push_stored_members.new.out.items ≡ xs)) whole c.push_stored_members.ensures

pub returns-in-None : goal.returns-in-None
returns-in-None c =
    let flat = ap (λ t. c.args.out.now.items ++ encode t) (sym (stored_flat c.args.value.now c.in-None.ensures)) in
    subst (λ xs. OnOk c.push_bytes.result (c.push_bytes.new.out.items ≡ xs)) flat c.push_bytes.ensures
