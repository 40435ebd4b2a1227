use Rattle.std.proofs.Common.{◌≡◌, Some, rules, sym, subst}
use Rattle.std.specs.BTreeMap as tree
use Rattle.std.specs.HashMap as table
use Rattle.base_types.proofs.KeyLemmas.{key_from_parts}
use Rattle.clouds.specs.Kept.{text_order}
use Rattle.past_building.proofs.Filing.{filed_before, filed_in, filed_new}
use Rattle.past_building.specs.Keyed.{key_eq}
use Rattle.past_building.proofs.removed.add.Goals as goal

pub returns-in_ok-_none-in-Some : goal.returns-in_ok-_none-in-Some
returns-in_ok-_none-in-Some c =
    let writes = c.get_mut.follows.holds c.insert.new.self in
    filed_in c.args.removed.now (c.get_mut.follows.lender c.insert.new.self) c.args.key.now c.args.uid.now c.args.number c.in-Some.uids.now c.insert.new.self (sym c.in-Some.ensures.value) (writes.3 (search rules)) (search rules)
    (subst (λ t. tree.Updates text_order c.in-Some.uids.now c.insert.new.self t (Some c.args.number)) c.in_ok-clone-in-Some.ensures.cases c.in_ok-_none-in-Some.ensures.updates)

pub returns-else-not-contains_key : goal.returns-else-not-contains_key
returns-else-not-contains_key c =
    let writes = c.get_mut.follows.holds c.in-Some.uids.now in
    filed_before c.args.removed.now (c.get_mut.follows.lender c.in-Some.uids.now) c.args.key.now c.args.uid.now c.args.number c.in-Some.uids.now (sym c.in-Some.ensures.value) (writes.3 (search rules)) (sym c.if-not-contains_key.ensures)

pub returns : goal.returns
returns c =
    let parts = c.in_ok-clone-in-None-2.ensures.cases in
    let copy : c.in_ok-clone-in-None-2.field-0 ≡ c.args.key.now = key_from_parts _ _ parts.0 parts.1.0 parts.1.1.0 parts.1.1.1 in
    let updates = rw c.get_mut.follows.holds-at-none at c.in_ok-_none-in-None-2.ensures.updates in
    let here : table.Updates key_eq c.args.removed.now c.insert-in-None-2.new.self c.args.key.now (Some c.insert-in-None.new.self) =
    subst (λ k. table.Updates key_eq c.args.removed.now c.insert-in-None-2.new.self k (Some c.insert-in-None.new.self)) copy updates in
    filed_new c.args.removed.now c.insert-in-None-2.new.self c.args.key.now c.args.uid.now c.args.number c.new-uids.result c.insert-in-None.new.self (sym c.in-None.ensures.value) here (search rules)
    (subst (λ t. tree.Updates text_order c.new-uids.result c.insert-in-None.new.self t (Some c.args.number)) c.in_ok-clone-in-None.ensures.cases c.in_ok-_none-in-None.ensures.updates)
