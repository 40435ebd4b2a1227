use Rattle.std.proofs.Common.{◌≡◌, ◌∙◌, ◌<◌, ◌≤◌, ℕ, List, Some, length, fold, slice_get, sym, ap, subst, Result, Err, OnOk, IfOk, arith}
use Rattle.std.proofs.lemmas.Result.{err_from_is_err_and}
use Rattle.base_types.specs.Meaning.{Meaning, items, members, kids_of, fields_of}
use Rattle.base_types.specs.Size.{nodes}
use Rattle.packed_tree.specs.Showing.{meaning_of}
use Rattle.node_pool.specs.declared.fault.PoolFault.TheVariants.{Full}
use Rattle.node_pool.specs.Subtrees.{inside, interned, with_tree}
use Rattle.node_pool.specs.Within.{tree_of}
use Rattle.node_pool.proofs.Answered.{not_full, Grows-placed, placed-interned, fits-at, full-at, full-longer}
use Rattle.node_pool.proofs.Cursors.{items_begun, items_smaller, items_read, items_over, items_held, members_begun, members_smaller, members_read, members_over, members_held}
use Rattle.node_pool.proofs.Walks.{Grows-refl, Grows-trans, labels-sorted}
use Rattle.node_pool.proofs.interning.+add.Goals as goal

-- a refusal has one fault
one_fault : {T E : Type 0} (r : Result T E) (x y : E) → r ≡ Err x → r ≡ Err y → x ≡ y
one_fault r x y p q = cc

pub add-level_of-requires : goal.add-level_of-requires
add-level_of-requires t c =
    let same : nodes (meaning_of c.show-shown.result) ≡ nodes c.args.value.now = ap nodes c.show-shown.ensures in
    omega arith

pub add-returns-in-Some-clause-grows : goal.add-returns-in-Some-clause-grows
add-returns-in-Some-clause-grows t c = Grows-refl c.args.store.now

pub add-returns-in-Some-clause-added : goal.add-returns-in-Some-clause-added
add-returns-in-Some-clause-added t c =
    let o = c.args.store.now in
    sym (subst (λ m. interned o.trees m ≡ o.trees) c.show-shown.ensures c.in-Some.ensures.added)

pub add-returns-in-Some-clause-number : goal.add-returns-in-Some-clause-number
add-returns-in-Some-clause-number t c = subst (λ m. slice_get c.args.store.now.trees c.in-Some.number ≡ Some m) c.show-shown.ensures c.in-Some.ensures.number

pub add-returns-in-Some-clause-fits : goal.add-returns-in-Some-clause-fits
add-returns-in-Some-clause-fits t c =
    let o = c.args.store.now in
    let same : interned o.trees c.args.value.now ≡ o.trees = subst (λ m. interned o.trees m ≡ o.trees) c.show-shown.ensures c.in-Some.ensures.added in
    subst (λ ts. length ts ≤ o.limit) (sym same) c.leaf_near.ensures.room

pub add-returns-in_err-level-clause-full : goal.add-returns-in_err-level-clause-full
add-returns-in_err-level-clause-full t c = λ refused.
    let o = c.args.store.now in
    let p = err_from_is_err_and c.from_residual.result c.from_residual.ensures.1 in
    let fault : p.0 ≡ Full = one_fault c.from_residual.result p.0 Full p.1 refused in
    let is : c.level_of.result ≡ Err Full = c.in_err-level.was ∙ ap Err (sym p.2 ∙ fault) in
    subst (λ m. o.limit < length (interned o.trees m)) c.show-shown.ensures (full-longer o.limit o.trees (meaning_of c.show-shown.result) (c.level_of.ensures.full is))

pub add-returns-clause-grows : goal.add-returns-clause-grows
add-returns-clause-grows t c =
    let o = c.args.store.now in
    let mid = c.level_of.new.store in
    let new = c.place_near.new.self in
    let e = c.place_near.ensures in
    Grows-trans o mid new c.level_of.ensures.grows (Grows-placed c.place_near.result mid new (tree_of mid.names mid.trees c.in_ok-level.level) e.limit e.names e.placed e.refused)

pub add-returns-clause-added : goal.add-returns-clause-added
add-returns-clause-added t c =
    let o = c.args.store.now in
    let mid = c.level_of.new.store in
    let new = c.place_near.new.self in
    let l = c.in_ok-level.ensures in
    let e = c.place_near.ensures in
    let m = meaning_of c.show-shown.result in
    let p = tree_of mid.names mid.trees c.in_ok-level.level in
    let same : with_tree mid.trees p ≡ interned o.trees c.args.value.now = placed-interned o.trees mid.trees m p l.added l.stands ∙ ap (interned o.trees) c.show-shown.ensures in
    subst (λ ts. OnOk c.place_near.result (new.trees ≡ ts)) same e.placed

pub add-returns-clause-number : goal.add-returns-clause-number
add-returns-clause-number t c =
    let l = c.in_ok-level.ensures in
    subst (λ t. IfOk c.place_near.result (λ n. slice_get c.place_near.new.self.trees n ≡ Some t)) (l.stands ∙ c.show-shown.ensures) c.place_near.ensures.number

pub add-returns-clause-fits : goal.add-returns-clause-fits
add-returns-clause-fits t c =
    let o = c.args.store.now in
    let mid = c.level_of.new.store in
    let l = c.in_ok-level.ensures in
    let m = meaning_of c.show-shown.result in
    let p = tree_of mid.names mid.trees c.in_ok-level.level in
    let same : with_tree mid.trees p ≡ interned o.trees c.args.value.now = placed-interned o.trees mid.trees m p l.added l.stands ∙ ap (interned o.trees) c.show-shown.ensures in
    fits-at c.place_near.result (with_tree mid.trees p) (interned o.trees c.args.value.now) mid.limit o.limit same l.grows.limit c.place_near.ensures.fits

pub add-returns-clause-full : goal.add-returns-clause-full
add-returns-clause-full t c =
    let o = c.args.store.now in
    let mid = c.level_of.new.store in
    let l = c.in_ok-level.ensures in
    let m = meaning_of c.show-shown.result in
    let p = tree_of mid.names mid.trees c.in_ok-level.level in
    let same : with_tree mid.trees p ≡ interned o.trees c.args.value.now = placed-interned o.trees mid.trees m p l.added l.stands ∙ ap (interned o.trees) c.show-shown.ensures in
    λ refused. full-at (with_tree mid.trees p) (interned o.trees c.args.value.now) mid.limit o.limit same l.grows.limit (c.place_near.ensures.full.0 refused)

pub level_of-returns-in-Null-clause-grows : goal.level_of-returns-in-Null-clause-grows
level_of-returns-in-Null-clause-grows t c = Grows-refl c.args.store.now

pub level_of-returns-in-Flag-clause-grows : goal.level_of-returns-in-Flag-clause-grows
level_of-returns-in-Flag-clause-grows t c = Grows-refl c.args.store.now

pub level_of-returns-in-Whole-clause-grows : goal.level_of-returns-in-Whole-clause-grows
level_of-returns-in-Whole-clause-grows t c = Grows-refl c.args.store.now

pub level_of-returns-in_err-from_str-in-Words-clause-grows : goal.level_of-returns-in_err-from_str-in-Words-clause-grows
level_of-returns-in_err-from_str-in-Words-clause-grows t c = Grows-refl c.args.store.now

pub level_of-returns-in_ok-from_str-in-Words-clause-grows : goal.level_of-returns-in_ok-from_str-in-Words-clause-grows
level_of-returns-in_ok-from_str-in-Words-clause-grows t c = Grows-refl c.args.store.now

pub level_of-returns-in_err-from_str-in-Words-clause-full : goal.level_of-returns-in_err-from_str-in-Words-clause-full
level_of-returns-in_err-from_str-in-Words-clause-full t c = λ refused. not_full c.from_residual.result c.from_residual.ensures.1 refused

pub level_of-returns-in_ok-add_items-in-Items-clause-added : goal.level_of-returns-in_ok-add_items-in-Items-clause-added
level_of-returns-in_ok-add_items-in-Items-clause-added t c =
    let whole : meaning_of c.args.shown ≡ items (kids_of c.in-Items.list) = ap meaning_of c.in-Items.is in
    subst (λ m. c.add_items.new.store.trees ≡ fold with_tree c.args.store.now.trees (inside m)) (sym whole) c.in_ok-add_items-in-Items.ensures.added

pub level_of-returns-in_ok-add_items-in-Items-clause-stands : goal.level_of-returns-in_ok-add_items-in-Items-clause-stands
level_of-returns-in_ok-add_items-in-Items-clause-stands t c =
    let whole : meaning_of c.args.shown ≡ items (kids_of c.in-Items.list) = ap meaning_of c.in-Items.is in
    ap (λ xs. items (kids_of xs)) c.in_ok-add_items-in-Items.ensures.held ∙ sym whole

pub level_of-returns-in_err-add_items-in-Items-clause-full : goal.level_of-returns-in_err-add_items-in-Items-clause-full
level_of-returns-in_err-add_items-in-Items-clause-full t c = λ refused.
    let r = c.from_residual-in_err-add_items-in-Items.result in
    let p = err_from_is_err_and r c.from_residual-in_err-add_items-in-Items.ensures.1 in
    let fault : p.0 ≡ Full = one_fault r p.0 Full p.1 refused in
    let is : c.add_items.result ≡ Err Full = c.in_err-add_items-in-Items.was ∙ ap Err (sym p.2 ∙ fault) in
    let whole : meaning_of c.args.shown ≡ items (kids_of c.in-Items.list) = ap meaning_of c.in-Items.is in
    subst (λ m. c.args.store.now.limit < length (fold with_tree c.args.store.now.trees (inside m))) (sym whole) (c.add_items.ensures.full is)

pub level_of-returns-in_ok-add_members-in-Members-clause-added : goal.level_of-returns-in_ok-add_members-in-Members-clause-added
level_of-returns-in_ok-add_members-in-Members-clause-added t c =
    let whole : meaning_of c.args.shown ≡ members (fields_of c.in-Members.list) = ap meaning_of c.in-Members.is in
    subst (λ m. c.add_members.new.store.trees ≡ fold with_tree c.args.store.now.trees (inside m)) (sym whole) c.in_ok-add_members-in-Members.ensures.added

pub level_of-returns-in_ok-add_members-in-Members-clause-within : goal.level_of-returns-in_ok-add_members-in-Members-clause-within
level_of-returns-in_ok-add_members-in-Members-clause-within t c =
    let e = c.in_ok-add_members-in-Members.ensures in
    let s = c.add_members.new.store in
    (e.within, labels-sorted s.names s.trees c.in_ok-add_members-in-Members.field-0.items c.in-Members.list e.held e.sorted)

pub level_of-returns-in_ok-add_members-in-Members-clause-stands : goal.level_of-returns-in_ok-add_members-in-Members-clause-stands
level_of-returns-in_ok-add_members-in-Members-clause-stands t c =
    let whole : meaning_of c.args.shown ≡ members (fields_of c.in-Members.list) = ap meaning_of c.in-Members.is in
    ap (λ xs. members (fields_of xs)) c.in_ok-add_members-in-Members.ensures.held ∙ sym whole

pub level_of-returns-in_err-add_members-in-Members-clause-full : goal.level_of-returns-in_err-add_members-in-Members-clause-full
level_of-returns-in_err-add_members-in-Members-clause-full t c = λ refused.
    let r = c.from_residual-in_err-add_members-in-Members.result in
    let p = err_from_is_err_and r c.from_residual-in_err-add_members-in-Members.ensures.1 in
    let fault : p.0 ≡ Full = one_fault r p.0 Full p.1 refused in
    let is : c.add_members.result ≡ Err Full = c.in_err-add_members-in-Members.was ∙ ap Err (sym p.2 ∙ fault) in
    let whole : meaning_of c.args.shown ≡ members (fields_of c.in-Members.list) = ap meaning_of c.in-Members.is in
    subst (λ m. c.args.store.now.limit < length (fold with_tree c.args.store.now.trees (inside m))) (sym whole) (c.add_members.ensures.full is)

pub add_items-items-init : goal.add_items-items-init
add_items-items-init t c = items_begun c.args.store.now c.args.list c.new-numbers.result.items c.new-numbers.ensures.items

pub add_items-add-requires : goal.add_items-add-requires
add_items-add-requires t c =
    let less = items_smaller c.args.store.now c.items.store c.args.list c.items.numbers.items c.items.rest c.next.new.self c.in-Some.item c.items.invariant c.in-Some.ensures.item in omega arith

pub add_items-returns-in_err-add-clause-grows : goal.add_items-returns-in_err-add-clause-grows
add_items-returns-in_err-add-clause-grows t c = Grows-trans c.args.store.now c.items.store c.add.new.store c.items.invariant.done.grows c.add.ensures.grows

pub add_items-returns-in_err-add-clause-full : goal.add_items-returns-in_err-add-clause-full
add_items-returns-in_err-add-clause-full t c = λ refused.
    let p = err_from_is_err_and c.from_residual.result c.from_residual.ensures.1 in
    let fault : p.0 ≡ Full = one_fault c.from_residual.result p.0 Full p.1 refused in
    let is : c.add.result ≡ Err Full = c.in_err-add.was ∙ ap Err (sym p.2 ∙ fault) in
    items_over c.args.store.now c.items.store c.args.list c.items.numbers.items c.items.rest c.next.new.self c.in-Some.item c.items.invariant c.in-Some.ensures.item (c.add.ensures.full is)

pub add_items-returns-in_err-push-clause-grows : goal.add_items-returns-in_err-push-clause-grows
add_items-returns-in_err-push-clause-grows t c = Grows-trans c.args.store.now c.items.store c.add.new.store c.items.invariant.done.grows c.add.ensures.grows

pub add_items-returns-in_err-push-clause-full : goal.add_items-returns-in_err-push-clause-full
add_items-returns-in_err-push-clause-full t c = λ refused. not_full c.from_residual-in_err-push.result c.from_residual-in_err-push.ensures.1 refused

pub add_items-items-preserved : goal.add_items-items-preserved
add_items-items-preserved t c =
    let e = c.in_ok-add.ensures in
    items_read c.args.store.now c.items.store c.add.new.store c.args.list c.items.numbers.items c.push.new.self.items c.items.rest c.next.new.self c.in_ok-add.field-0 c.in-Some.item c.items.invariant c.in-Some.ensures.item e.grows e.added e.number
    c.in_ok-push.ensures.items

pub add_items-returns-clause-grows : goal.add_items-returns-clause-grows
add_items-returns-clause-grows t c = c.items.invariant.done.grows

pub add_items-returns-clause-added : goal.add_items-returns-clause-added
add_items-returns-clause-added t c =
    (items_held c.args.store.now c.items.store c.args.list c.items.numbers.items c.shrink_to_fit.new.self.items c.items.rest c.items.invariant c.in_default.ensures.none c.shrink_to_fit.ensures.items).added

pub add_items-returns-clause-within : goal.add_items-returns-clause-within
add_items-returns-clause-within t c =
    (items_held c.args.store.now c.items.store c.args.list c.items.numbers.items c.shrink_to_fit.new.self.items c.items.rest c.items.invariant c.in_default.ensures.none c.shrink_to_fit.ensures.items).within

pub add_items-returns-clause-held : goal.add_items-returns-clause-held
add_items-returns-clause-held t c =
    (items_held c.args.store.now c.items.store c.args.list c.items.numbers.items c.shrink_to_fit.new.self.items c.items.rest c.items.invariant c.in_default.ensures.none c.shrink_to_fit.ensures.items).held

pub add_members-members-init : goal.add_members-members-init
add_members-members-init t c = members_begun c.args.store.now c.args.list c.new-numbers.result.items c.new-numbers.ensures.items

pub add_members-add-requires : goal.add_members-add-requires
add_members-add-requires t c =
    let x : List ℕ × Meaning = (c.in-Some.name.now, c.in-Some.item) in
    let less = members_smaller c.args.store.now c.members.store c.args.list c.members.numbers.items c.members.rest c.next.new.self x c.members.invariant c.in-Some.ensures.member in omega arith

pub add_members-returns-in_err-named-clause-grows : goal.add_members-returns-in_err-named-clause-grows
add_members-returns-in_err-named-clause-grows t c = Grows-trans c.args.store.now c.members.store c.number_near.new.self c.members.invariant.done.grows c.number_near.ensures.grows

pub add_members-returns-in_err-named-clause-full : goal.add_members-returns-in_err-named-clause-full
add_members-returns-in_err-named-clause-full t c = λ refused. not_full c.from_residual.result c.from_residual.ensures.1 refused

pub add_members-returns-in_err-value-clause-grows : goal.add_members-returns-in_err-value-clause-grows
add_members-returns-in_err-value-clause-grows t c =
    let o = c.args.store.now in
    let now = c.number_near.new.self in
    Grows-trans o now c.add.new.store (Grows-trans o c.members.store now c.members.invariant.done.grows c.number_near.ensures.grows) c.add.ensures.grows

pub add_members-returns-in_err-value-clause-full : goal.add_members-returns-in_err-value-clause-full
add_members-returns-in_err-value-clause-full t c = λ refused.
    let n = c.in_ok-named.ensures in
    let p = err_from_is_err_and c.from_residual-in_err-value.result c.from_residual-in_err-value.ensures.1 in
    let fault : p.0 ≡ Full = one_fault c.from_residual-in_err-value.result p.0 Full p.1 refused in
    let is : c.add.result ≡ Err Full = c.in_err-value.was ∙ ap Err (sym p.2 ∙ fault) in
    members_over c.args.store.now c.members.store c.number_near.new.self c.args.list c.members.numbers.items c.members.rest c.next.new.self (c.in-Some.name.now, c.in-Some.item) c.members.invariant c.in-Some.ensures.member
    n.grows n.trees (c.add.ensures.full is)

pub add_members-returns-in_err-push-clause-grows : goal.add_members-returns-in_err-push-clause-grows
add_members-returns-in_err-push-clause-grows t c =
    let o = c.args.store.now in
    let now = c.number_near.new.self in
    Grows-trans o now c.add.new.store (Grows-trans o c.members.store now c.members.invariant.done.grows c.number_near.ensures.grows) c.add.ensures.grows

pub add_members-returns-in_err-push-clause-full : goal.add_members-returns-in_err-push-clause-full
add_members-returns-in_err-push-clause-full t c = λ refused. not_full c.from_residual-in_err-push.result c.from_residual-in_err-push.ensures.1 refused

pub add_members-members-preserved : goal.add_members-members-preserved
add_members-members-preserved t c =
    let n = c.in_ok-named.ensures in
    let e = c.in_ok-value.ensures in
    members_read c.args.store.now c.members.store c.number_near.new.self c.add.new.store c.args.list c.members.numbers.items c.push.new.self.items c.members.rest c.next.new.self c.in_ok-named.named.name c.in_ok-value.value
    (c.in-Some.name.now, c.in-Some.item) c.members.invariant c.in-Some.ensures.member n.grows n.trees n.number e.grows e.added e.number c.in_ok-push.ensures.items

pub add_members-returns-clause-grows : goal.add_members-returns-clause-grows
add_members-returns-clause-grows t c = c.members.invariant.done.grows

pub add_members-returns-clause-added : goal.add_members-returns-clause-added
add_members-returns-clause-added t c =
    (members_held c.args.store.now c.members.store c.args.list c.members.numbers.items c.shrink_to_fit.new.self.items c.members.rest c.members.invariant c.in_default.ensures.none c.shrink_to_fit.ensures.items).added

pub add_members-returns-clause-within : goal.add_members-returns-clause-within
add_members-returns-clause-within t c =
    (members_held c.args.store.now c.members.store c.args.list c.members.numbers.items c.shrink_to_fit.new.self.items c.members.rest c.members.invariant c.in_default.ensures.none c.shrink_to_fit.ensures.items).within

pub add_members-returns-clause-held : goal.add_members-returns-clause-held
add_members-returns-clause-held t c =
    (members_held c.args.store.now c.members.store c.args.list c.members.numbers.items c.shrink_to_fit.new.self.items c.members.rest c.members.invariant c.in_default.ensures.none c.shrink_to_fit.ensures.items).held

pub add_members-returns-clause-sorted : goal.add_members-returns-clause-sorted
add_members-returns-clause-sorted t c = c.sorted.ensures
