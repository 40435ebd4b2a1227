use Rattle.std.proofs.Common.{◌≡◌, [], ◌∷◌, ◌++◌, Some, None, Err, string_bytes, string_cmp, sym, ap, subst, ◌∙◌, append_assoc, append-nil, rules, arith}
use Rattle.std.proofs.lemmas.Grind.{common_steps}
use Rattle.std.specs.List.Sorted.{IsStrictlySortedBy}
use Rattle.std.specs.Map.{keys_of}
use Rattle.serde_json.specs.View.{view, members_view}
use Rattle.serde_json.proofs.Views.{Entry}
use Rattle.base_types.specs.declared.json.tree.TreeFault.TheVariants.{Fraction}
use Rattle.base_types.specs.Names.{names}
use Rattle.base_types.specs.Values.{of_data, of_members}
use Rattle.base_types.proofs.Reading.{entry_names, item_read, item_refused, kids_range-snoc, fields_range-snoc, member_read, member_refused, sorted_names, names-snoc, entry_names-snoc}
use Rattle.base_types.proofs.json.values.+from_value.Goals as goal

pub from_items-returns-in_err-from_value-clause-fraction : goal.from_items-returns-in_err-from_value-clause-fraction
from_items-returns-in_err-from_value-clause-fraction t c refused =
    let is : c.from_value.result ≡ Err Fraction = search rules in
    let none : of_data (view c.item-item.result) ≡ None = c.from_value.ensures.fraction is in
    grind (arith, common_steps, item_refused, none)

pub from_items-loop-item-preserved : goal.from_items-loop-item-preserved
from_items-loop-item-preserved t c =
    let l = c.loop-item in
    let read : of_data (view c.item-item.result) ≡ Some c.in_ok-from_value.field-0 = c.in_ok-from_value.ensures.ok in
    rw c.in_ok-push.ensures.items (record {
      read = item_read c.deref-item-items.result.now l.item-index c.item-item.result l.all.items c.in_ok-from_value.field-0 (omega arith) l.invariant.read (rw (← c.item-item.is) read);
      range = kids_range-snoc l.all.items c.in_ok-from_value.field-0 l.invariant.range c.in_ok-from_value.ensures.range;
    })

pub from_members-returns-in_err-value-clause-fraction : goal.from_members-returns-in_err-value-clause-fraction
from_members-returns-in_err-value-clause-fraction t c refused =
    let l = c.loop-key in
    let done = l.invariant.0 in
    let e : Entry = (c.in-Some.key.now, c.in-Some.member.now) in
    let left = c.next.new.self in
    let all : c.args.map.now.entries ≡ done ++ e ∷ left = l.invariant.1 ∙ ap (λ es. done ++ es) c.in-Some.ensures.steps in
    let is : c.from_value.result ≡ Err Fraction = search rules in
    ap (λ es. of_members (members_view es)) all ∙ member_refused done e left (c.from_value.ensures.fraction is)

pub from_members-loop-key-preserved : goal.from_members-loop-key-preserved
from_members-loop-key-preserved t c =
    let l = c.loop-key in
    let done = l.invariant.0 in
    let e : Entry = (c.in-Some.key.now, c.in-Some.member.now) in
    let left = c.next.new.self in
    let all : c.args.map.now.entries ≡ done ++ e ∷ left = l.invariant.1 ∙ ap (λ es. done ++ es) c.in-Some.ensures.steps in
    let named : c.in_ok-name.name ≡ string_bytes e.0 = search rules in (
      done ++ e ∷ [],
      all ∙ sym (append_assoc done (e ∷ []) left),
      rw c.in_ok-push.ensures.items (member_read done e l.all.items c.in_ok-name.name c.in_ok-value.value l.invariant.2 named c.in_ok-value.ensures.ok),
      ap names c.in_ok-push.ensures.items ∙ names-snoc l.all.items c.in_ok-name.name c.in_ok-value.value ∙ ap (λ r. r ++ c.in_ok-name.name ∷ []) l.invariant.3 ∙ ap (λ n. entry_names done ++ n ∷ []) named ∙ sym (entry_names-snoc done e),
      rw c.in_ok-push.ensures.items (fields_range-snoc l.all.items c.in_ok-name.name c.in_ok-value.value l.invariant.4 c.in_ok-value.ensures.range),
    )

pub from_members-invariant_of-result : goal.from_members-invariant_of-result
from_members-invariant_of-result t c =
    let l = c.loop-key in
    let done = l.invariant.0 in
    let all : c.args.map.now.entries ≡ done = l.invariant.1 ∙ ap (λ es. done ++ es) (grind arith) ∙ append-nil done in
    sorted_names l.all.items done l.invariant.3 (subst (λ es. IsStrictlySortedBy string_cmp (keys_of es)) all c.iter-key-items.ensures.ordered)
