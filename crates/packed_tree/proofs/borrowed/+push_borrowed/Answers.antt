use Rattle.std.proofs.Common.{◌≡◌, [], ◌∷◌, ◌++◌, IsUtf8, sym, ap, ◌∙◌, rules, arith}
use Rattle.std.proofs.lemmas.Grind.{common_steps}
use Rattle.base_types.specs.Values.{of_items, of_members}
use Rattle.borrowed_json.specs.View.{items_view, members_view}
use Rattle.packed_tree.proofs.Packings.{kids_sound-snoc, fields_sound-snoc, member_put, object_packed}
use Rattle.packed_tree.proofs.BorrowedPackings.{item_kept, item_put, items_packed, member_kept, members_packed, names_kept, sorted_names}
use Rattle.packed_tree.proofs.borrowed.+push_borrowed.Goals as goal

pub push_items-loop-item-preserved : goal.push_items-loop-item-preserved
push_items-loop-item-preserved t c =
    let l = c.loop-item in
    let vs = c.deref-item-items.result.now in
    let values = l.invariant.0 in
    let put = c.in_ok-push_item.ensures.ok in (
      values ++ put.value ∷ [],
      item_kept (of_items (items_view vs)) vs l.item-index c.item-item.result values put.value (omega arith) c.item-item.is l.invariant.1 put.is,
      kids_sound-snoc values put.value l.invariant.2 put.sound,
      item_put values put.value c.args.out.now.items l.out.items c.push_item.new.out.items l.invariant.3 put.put,
    )

pub push_items-returns-clause-ok : goal.push_items-returns-clause-ok
push_items-returns-clause-ok t c =
    let l = c.loop-item in
    let vs = c.deref-item-items.result.now in
    let values = l.invariant.0 in
    record {
      values = values;
      is = ap (λ xs. of_items (items_view xs)) (sym c.deref-item-items.ensures.value) ∙ items_packed (of_items (items_view vs)) vs l.item-index values (omega arith) l.invariant.1;
      sound = l.invariant.2;
      put = l.invariant.3;
    }

pub push_members-loop-key-preserved : goal.push_members-loop-key-preserved
push_members-loop-key-preserved t c =
    let l = c.loop-key in
    let values = l.invariant.0 in
    let name = c.in-Some.key.now in
    let value = c.in-Some.member.now in
    let more = c.next.new.self in
    let put = c.in_ok-push_item.ensures.ok in
    let steps = c.in-Some.ensures.steps in
    let utf8 : IsUtf8 name.now = search rules in (
      values ++ (name.now, put.value) ∷ [],
      member_kept (of_members (members_view c.args.map.now.entries)) l.key-iterator more name value values put.value steps l.invariant.1 put.is,
      names_kept _ l.key-iterator more name value values put.value steps l.invariant.2,
      fields_sound-snoc values name.now put.value l.invariant.3 utf8 put.sound,
      member_put values name.now put.value c.args.out.now.items l.out.items c.push_name.new.out.items c.push_item.new.out.items l.invariant.4 c.in_ok-push_name.ensures put.put,
    )

pub push_members-returns-clause-ok : goal.push_members-returns-clause-ok
push_members-returns-clause-ok t c =
    let l = c.loop-key in
    let values = l.invariant.0 in
    let all = c.args.map.now.entries in
    let none : l.key-iterator ≡ [] = search rules in
    record {
      values = values;
      is = members_packed (of_members (members_view all)) l.key-iterator values none l.invariant.1;
      sound = l.invariant.3;
      sorted = sorted_names all l.key-iterator values none l.invariant.2 c.iter-key-items.ensures.ordered;
      put = l.invariant.4;
    }

pub push_object-returns-clause-ok : goal.push_object-returns-clause-ok
push_object-returns-clause-ok t c = grind (arith, common_steps, object_packed)
