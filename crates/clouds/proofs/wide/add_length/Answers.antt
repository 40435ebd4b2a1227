use Rattle.std.proofs.Common.{◌≡◌, [], inl, inr, refl, ap, rules, subst, sym}
use Rattle.clouds.specs.Items.{items_at, items_of}
use Rattle.clouds.specs.Wide.{scope_order}
use Rattle.clouds.proofs.Adding.{AddsAt-updates, Grows, Grows-push}
use Rattle.clouds.proofs.Fronts.{scope_order_total}
use Rattle.clouds.proofs.wide.add_length.Goals as goal

pub returns-in-Some : goal.returns-in-Some
returns-in-Some c =
    let held : items_at scope_order c.args.lengths.now c.args.scope ≡ c.in-Some.held.now = ap items_of (sym c.in-Some.ensures.value) in
    let writes = c.get_mut.follows.holds c.add.new.self in
    let says = c.in_ok-add-in-Some.ensures in
    let grows : Grows c.in-Some.held.now c.add.new.self c.args.length = record {
      kept = λ x among. (says x).1 (inl among);
      added = (says c.args.length).1 (inr refl);
      only = λ x among. (says x).0 among;
    } in
    AddsAt-updates scope_order scope_order_total _ _ _ c.add.new.self c.args.length (writes.3 (search rules))
    (subst (λ l. Grows l c.add.new.self c.args.length) (sym held) grows)

pub returns : goal.returns
returns c =
    let none : items_at scope_order c.args.lengths.now c.args.scope ≡ [] = ap items_of (sym c.in-None.ensures.value) in
    let updates = rw c.get_mut.follows.holds-at-none at c.in_ok-_none-in-None.ensures.updates in
    let grows : Grows [] c.in_ok-of-in-None.field-0 c.args.length = subst (λ l. Grows [] l c.args.length) (sym c.in_ok-of-in-None.ensures) (Grows-push [] c.args.length) in
    AddsAt-updates scope_order scope_order_total _ _ _ c.in_ok-of-in-None.field-0 c.args.length updates
    (subst (λ l. Grows l c.in_ok-of-in-None.field-0 c.args.length) (sym none) grows)
