use Rattle.std.proofs.Common.{◌≡◌, [], ap, rules, subst, sym}
use Rattle.std.proofs.lemmas.Cmp.{nat_list_cmp_total}
use Rattle.clouds.specs.Items.{items_at, items_of}
use Rattle.clouds.specs.Kept.{text_order}
use Rattle.clouds.proofs.Adding.{AddsAt-updates, Grows}
use Rattle.rbac_timeline.proofs.Rising.{Grows-more}
use Rattle.rbac_timeline.proofs.index.add_under.Goals as goal

pub returns-in-Some : goal.returns-in-Some
returns-in-Some c =
    let held : items_at text_order c.args.index.now c.args.text.now ≡ c.in-Some.keys.now = ap items_of (sym c.in-Some.ensures.value) in
    let writes = c.get_mut.follows.holds c.add.new.self in
    AddsAt-updates text_order nat_list_cmp_total _ _ _ c.add.new.self c.args.key.now (writes.3 (search rules))
    (subst (λ l. Grows l c.add.new.self c.args.key.now) (sym held) (Grows-more _ _ _ c.in_ok-add-in-Some.ensures))

pub returns : goal.returns
returns c =
    let none : items_at text_order c.args.index.now c.args.text.now ≡ [] = ap items_of (sym c.in-None.ensures.value) in
    let made = rw c.get_mut.follows.holds-at-none at c.in_ok-begin_under-in-None.ensures in
    AddsAt-updates text_order nat_list_cmp_total _ _ _ made.0 c.args.key.now made.1
    (subst (λ l. Grows l made.0 c.args.key.now) (sym none) (Grows-more _ _ _ made.2))
