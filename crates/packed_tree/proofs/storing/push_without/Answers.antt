use Rattle.std.proofs.Common.{◌≡◌, ◌++◌, ap, sym, subst}
use Rattle.std.specs.Prelude.{OnOk}
use Rattle.packed_tree.specs.Encoding.{encode}
use Rattle.packed_tree.proofs.StoredForms.{object_without, without_flat}
use Rattle.packed_tree.proofs.storing.push_without.Goals as goal

pub returns-in_ok-push-in-Some : goal.returns-in_ok-push-in-Some
returns-in_ok-push-in-Some c =
    let whole = object_without c.args.inner.now c.args.value.now c.in-Some.list c.args.out.now.items c.push.new.self.items c.in-Some.ensures c.in_ok-push-in-Some.ensures.items in
    subst (λ xs. OnOk c.push_others.result (c.push_others.new.out.items ≡ xs)) whole c.push_others.ensures

pub returns-in-None : goal.returns-in-None
returns-in-None c =
    let flat = ap (λ t. c.args.out.now.items ++ encode t) (sym (without_flat c.args.inner.now c.args.value.now c.in-None.ensures)) in
    subst (λ xs. OnOk c.push_bytes.result (c.push_bytes.new.out.items ≡ xs)) flat c.push_bytes.ensures
