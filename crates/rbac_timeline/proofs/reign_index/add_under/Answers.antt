use Rattle.std.proofs.Common.{◌≡◌, [], ◌∷◌, ap, rules, subst, sym}
use Rattle.std.proofs.lemmas.Cmp.{nat_list_cmp_total}
use Rattle.clouds.specs.Items.{items_at, items_of}
use Rattle.clouds.specs.Kept.{text_order}
use Rattle.clouds.proofs.Adding.{AddsAt-updates, Grows, Grows-push}
use Rattle.rbac_timeline.proofs.reign_index.add_under.Goals as goal

pub returns-in-Some : goal.returns-in-Some
returns-in-Some c =
    let held : items_at text_order c.args.map.now c.args.text.now ≡ c.in-Some.reigns.now = ap items_of (sym c.in-Some.ensures.value) in
    let writes = c.get_mut.follows.holds c.push.new.self in
    AddsAt-updates text_order nat_list_cmp_total _ _ _ c.push.new.self c.args.reign (writes.3 (search rules))
    (subst (λ l. Grows l c.push.new.self c.args.reign) (sym held) (rw c.in_ok-push-in-Some.ensures (Grows-push c.in-Some.reigns.now c.args.reign)))

pub returns : goal.returns
returns c =
    let none : items_at text_order c.args.map.now c.args.text.now ≡ [] = ap items_of (sym c.in-None.ensures.value) in
    let made = rw c.get_mut.follows.holds-at-none at c.in_ok-begin_under-in-None.ensures in
    AddsAt-updates text_order nat_list_cmp_total _ _ _ (c.args.reign ∷ []) c.args.reign made (subst (λ l. Grows l (c.args.reign ∷ []) c.args.reign) (sym none) (Grows-push [] c.args.reign))
