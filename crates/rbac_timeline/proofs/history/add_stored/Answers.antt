use Rattle.std.proofs.Common.{◌≡◌, [], ◌∷◌, Some, ap, rules, subst, sym}
use Rattle.std.specs.BTreeMap.{Updates}
use Rattle.clouds.specs.Items.{items_at, items_of}
use Rattle.clouds.specs.Kept.{key_order}
use Rattle.clouds.proofs.Adding.{AddsAt-updates, Grows, Grows-permuted, Grows-push, key_order_total}
use Rattle.rbac_timeline.proofs.history.add_stored.Goals as goal

pub returns-in-Some : goal.returns-in-Some
returns-in-Some c =
    let held : items_at key_order c.args.histories.now c.args.key ≡ c.in-Some.history.now = ap items_of (sym c.in-Some.ensures.value) in
    let writes = c.get_mut.follows.holds c.add.new.self in
    let grows = Grows-permuted _ _ _ c.in_ok-add-in-Some.ensures in
    AddsAt-updates key_order key_order_total _ _ _ c.add.new.self c.args.stored (writes.3 (search rules))
    (subst (λ l. Grows l c.add.new.self c.args.stored) (sym held) grows)

pub returns : goal.returns
returns c =
    let stored = c.args.stored in
    let none : items_at key_order c.args.histories.now c.args.key ≡ [] = ap items_of (sym c.in-None.ensures.value) in
    let updates : Updates key_order c.args.histories.now c.begin_stored.new.histories c.args.key (Some (stored ∷ [])) =
    rw c.get_mut.follows.holds-at-none at c.in_ok-begin_stored-in-None.ensures in
    AddsAt-updates key_order key_order_total _ _ _ (stored ∷ []) stored updates
    (subst (λ l. Grows l (stored ∷ []) stored) (sym none) (Grows-push [] stored))
