use Rattle.std.proofs.Common.{◌≡◌, [], ap, rules, subst, sym}
use Rattle.clouds.specs.Items.{items_at, items_of}
use Rattle.clouds.proofs.Adding.{AddsAt-updates, Grows, Grows-push}
use Rattle.clouds.proofs.unrecorded.add_span.Goals as goal

pub returns-in-Some : goal.returns-in-Some
returns-in-Some g c =
    let held : items_at g.K.Ord.cmp c.args.spans.now c.args.key ≡ c.in-Some.held.now = ap items_of (sym c.in-Some.ensures.value) in
    let writes = c.get_mut.follows.holds c.add.new.self in
    AddsAt-updates g.K.Ord.cmp g.met.K.Ord.total _ _ _ c.add.new.self c.args.span.now (writes.3 (search rules))
    (subst (λ l. Grows l c.add.new.self c.args.span.now) (sym held) (rw c.in_ok-add-in-Some.ensures (Grows-push c.in-Some.held.now c.args.span.now)))

pub returns : goal.returns
returns g c =
    let none : items_at g.K.Ord.cmp c.args.spans.now c.args.key ≡ [] = ap items_of (sym c.in-None.ensures.value) in
    let updates = rw c.get_mut.follows.holds-at-none at c.in_ok-_none-in-None.ensures.updates in
    let grows : Grows [] c.in_ok-of-in-None.field-0 c.args.span.now = subst (λ l. Grows [] l c.args.span.now) (sym c.in_ok-of-in-None.ensures) (Grows-push [] c.args.span.now) in
    AddsAt-updates g.K.Ord.cmp g.met.K.Ord.total _ _ _ c.in_ok-of-in-None.field-0 c.args.span.now updates
    (subst (λ l. Grows l c.in_ok-of-in-None.field-0 c.args.span.now) (sym none) grows)
