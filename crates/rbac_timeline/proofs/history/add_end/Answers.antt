use Rattle.std.proofs.Common.{◌≡◌, [], ◌∷◌, Some, ap, rules, subst, sym}
use Rattle.std.specs.BTreeMap.{Updates}
use Rattle.clouds.specs.Items.{items_at, items_of}
use Rattle.clouds.specs.Kept.{key_order}
use Rattle.clouds.proofs.Adding.{AddsAt-updates, Grows, Grows-permuted, Grows-push, key_order_total}
use Rattle.rbac_timeline.specs.Kept.{gap_of}
use Rattle.rbac_timeline.proofs.history.add_end.Goals as goal

pub returns-in-Some : goal.returns-in-Some
returns-in-Some c =
    let held : items_at key_order c.args.removals.now c.args.end.now.key ≡ c.in-Some.gaps.now = ap items_of (sym c.in-Some.ensures.value) in
    let writes = c.get_mut.follows.holds c.add.new.self in
    let grows = Grows-permuted _ _ _ (rw c.get.ensures.value at c.in_ok-add-in-Some.ensures) in
    AddsAt-updates key_order key_order_total _ _ _ c.add.new.self (gap_of c.args.end.now) (writes.3 (search rules))
    (subst (λ l. Grows l c.add.new.self (gap_of c.args.end.now)) (sym held) grows)

pub returns : goal.returns
returns c =
    let gap = gap_of c.args.end.now in
    let none : items_at key_order c.args.removals.now c.args.end.now.key ≡ [] = ap items_of (sym c.in-None.ensures.value) in
    let updates : Updates key_order c.args.removals.now c.begin_gaps.new.removals c.args.end.now.key (Some (gap ∷ [])) =
    rw (c.get_mut.follows.holds-at-none, c.get.ensures.value) at c.in_ok-begin_gaps-in-None.ensures in
    AddsAt-updates key_order key_order_total _ _ _ (gap ∷ []) gap updates
    (subst (λ l. Grows l (gap ∷ []) gap) (sym none) (Grows-push [] gap))
