use Rattle.std.proofs.Common.{◌≡◌, ℕ, List, ◌+◌, ◌<◌, get_or, string_bytes, sym, ap, subst, ◌∙◌, arith}
use Rattle.serde_json.specs.View.{view, members_view}
use Rattle.base_types.specs.Meaning.{Meaning, kids_of, fields_of}
use Rattle.base_types.specs.Names.{AreSorted}
use Rattle.base_types.specs.Size.{nodes, kids_nodes, fields_nodes}
use Rattle.base_types.specs.Values.{InRange, KidsInRange, FieldsInRange, data_of}
use Rattle.base_types.proofs.Printing.{kid_smaller, kid_in_range, field_smaller, field_in_range, items_more, members_more, insert_last, entries_below}
use Rattle.base_types.proofs.json.values.+value_of.Goals as goal

pub to_items-value_of-requires : goal.to_items-value_of-requires
to_items-value_of-requires t c =
    let all : c.args.list.now ≡ c.deref-item-items.result.now = sym c.list.view_is ∙ sym c.deref-item-items.ensures.value in
    let inside = subst (λ l. KidsInRange (kids_of l)) all c.requires in
    let at = c.loop-item.item-index in
    let smaller = kid_smaller c.deref-item-items.result.now at c.item-item.result c.loop-item-test.true in
    let small : nodes c.item-item.result < kids_nodes (kids_of c.args.list.now) =
    subst (λ l. nodes c.item-item.result < kids_nodes (kids_of l)) (sym all) (subst (λ x. nodes x < kids_nodes (kids_of c.deref-item-items.result.now)) (sym c.item-item.is) smaller) in
    (omega arith, subst InRange (sym c.item-item.is) (kid_in_range c.deref-item-items.result.now at c.item-item.result c.loop-item-test.true inside))

pub to_items-loop-item-preserved : goal.to_items-loop-item-preserved
to_items-loop-item-preserved t c =
    rw c.in_ok-push.ensures.items (items_more c.loop-item.all.items c.in_ok-value_of.field-0 c.deref-item-items.result.now c.loop-item.item-index c.item-item.result c.loop-item-test.true c.loop-item.invariant (c.in_ok-value_of.ensures ∙ ap data_of c.item-item.is))

pub to_members-value_of-requires : goal.to_members-value_of-requires
to_members-value_of-requires t c =
    let all : c.args.list.now ≡ c.deref-member-items.result.now = sym c.list.view_is ∙ sym c.deref-member-items.ensures.value in
    let inside = subst (λ l. FieldsInRange (fields_of l)) all c.requires in
    let at = c.loop-member.member-index in
    let whole = c.deref-member-items.result.now in
    let is : (c.member.inside.name, c.member.inside.value) ≡ get_or whole at c.member-item.result = c.member.view_is ∙ c.member-item.is in
    let smaller = field_smaller whole at c.member-item.result c.loop-member-test.true in
    let small : nodes c.member.inside.value + 1 < fields_nodes (fields_of c.args.list.now) =
    subst (λ l. nodes c.member.inside.value + 1 < fields_nodes (fields_of l)) (sym all) (subst (λ (x : List ℕ × Meaning). nodes x.1 + 1 < fields_nodes (fields_of whole)) (sym is) smaller) in
    (omega arith, subst (λ (x : List ℕ × Meaning). InRange x.1) (sym is) (field_in_range whole at c.member-item.result c.loop-member-test.true inside))

pub to_members-loop-member-preserved : goal.to_members-loop-member-preserved
to_members-loop-member-preserved t c =
    let l = c.loop-member in
    let whole = c.deref-member-items.result.now in
    let is : (c.member.inside.name, c.member.inside.value) ≡ get_or whole l.member-index c.member-item.result = c.member.view_is ∙ c.member-item.is in
    let named : string_bytes c.in_ok-name.name ≡ (get_or whole l.member-index c.member-item.result).0 = c.in_ok-name.ensures.ok ∙ c.as_str.ensures.value ∙ ap (λ (m : List ℕ × Meaning). m.0) is in
    let here : view c.in_ok-value.value ≡ data_of (get_or whole l.member-index c.member-item.result).1 = c.in_ok-value.ensures ∙ ap (λ (m : List ℕ × Meaning). data_of m.1) is in
    let sorted = subst AreSorted (sym c.deref-member-items.ensures.value) c.list.invariant in
    let below = entries_below l.map.entries c.in_ok-name.name whole l.member-index c.member-item.result c.loop-member-test.true sorted l.invariant named in
    let last = c.in_ok-insert.ensures.entries ∙ insert_last l.map.entries c.in_ok-name.name c.in_ok-value.value below in
    ap members_view last ∙ members_more l.map.entries c.in_ok-name.name c.in_ok-value.value whole l.member-index c.member-item.result c.loop-member-test.true l.invariant named here
