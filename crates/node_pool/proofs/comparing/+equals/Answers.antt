use Rattle.std.proofs.Common.{◌≡◌, ◌≤◌, refl, ◌<◌, ◌↔◌, IsTrue, false, map, ◌∙◌, Some, slice_get, length, sym, ap, subst}
use Rattle.base_types.specs.Node.{meaning_of}
use Rattle.node_pool.specs.Flat.{flat_of}
use Rattle.node_pool.specs.Within.{looked_up, told}
use Rattle.node_pool.proofs.Looks.{StandsAt, items-equal, members-equal, differ_at}
use Rattle.node_pool.proofs.Prefixes.{agree-more, agree-whole}
use Rattle.node_pool.proofs.comparing.+equals.Goals as goal

pub equal_items-returns-then-not-equals : goal.equal_items-returns-then-not-equals
equal_items-returns-then-not-equals t c =
    let s = c.args.store.now in
    let within = subst (λ n. c.loop-i.i < n) (c.len-i-end.ensures ∙ c.args.numbers.now.ok.0) c.loop-i-test.true in
    let long : length c.args.numbers.now.items ≡ length c.list.inside.all.items = sym c.args.numbers.now.ok.0 ∙ sym c.len.ensures ∙ c.if-len.false ∙ c.len-2.ensures ∙ c.list.inside.all.ok.0 in
    subst (λ xs. IsTrue false ↔ (map (slice_get s.trees) c.args.numbers.now.items ≡ map Some xs)) c.list.view_is
    (differ_at (slice_get s.trees) Some c.args.numbers.now.items c.list.inside.all.items c.loop-i.i c.index.result.now c.index-in-loop-i.result.now c.equals.result within long c.index.ensures c.index-in-loop-i.ensures c.equals.ensures c.if-not-equals.true)

pub equal_members-returns-then-not-equal_member : goal.equal_members-returns-then-not-equal_member
equal_members-returns-then-not-equal_member t c =
    let s = c.args.store.now in
    let within = subst (λ n. c.loop-i.i < n) (c.len-i-end.ensures ∙ c.args.numbers.now.ok.0) c.loop-i-test.true in
    let long : length c.args.numbers.now.items ≡ length c.list.inside.all.items = sym c.args.numbers.now.ok.0 ∙ sym c.len.ensures ∙ c.if-len.false ∙ c.len-2.ensures ∙ c.list.inside.all.ok.0 in
    subst (λ xs. IsTrue false ↔ (map (looked_up s.names s.trees) c.args.numbers.now.items ≡ map told xs)) c.list.view_is
    (differ_at (looked_up s.names s.trees) told c.args.numbers.now.items c.list.inside.all.items c.loop-i.i c.index.result.now c.index-in-loop-i.result.now c.equal_member.result within long c.index.ensures c.index-in-loop-i.ensures c.equal_member.ensures c.if-not-equal_member.true)

pub equals-returns-in-Items-Items : goal.equals-returns-in-Items-Items
equals-returns-in-Items-Items t c =
    let s = c.args.store.now in
    let w = c.in-Items-Items in
    let stands : StandsAt s.names s.trees c.args.number c.in-Some.level.now = record { tree = c.in-Some.ensures.tree; before = c.in-Some.ensures.before } in
    items-equal s.names s.trees c.args.number c.in-Some.level.now c.args.tree.now w.a.items w.b c.equal_items.result stands (sym c.level-2.view_is ∙ ap flat_of w.is-0) (sym c.tree.view_is ∙ ap meaning_of w.is-1) c.equal_items.ensures

pub equals-returns-in-Members-Members : goal.equals-returns-in-Members-Members
equals-returns-in-Members-Members t c =
    let s = c.args.store.now in
    let w = c.in-Members-Members in
    let stands : StandsAt s.names s.trees c.args.number c.in-Some.level.now = record { tree = c.in-Some.ensures.tree; before = c.in-Some.ensures.before } in
    members-equal s.names s.trees c.args.number c.in-Some.level.now c.args.tree.now w.a.items w.b c.equal_members.result stands (sym c.level-2.view_is ∙ ap flat_of w.is-0) (sym c.tree.view_is ∙ ap meaning_of w.is-1) c.equal_members.ensures

pub equal_items-loop-i-preserved : goal.equal_items-loop-i-preserved
equal_items-loop-i-preserved t c =
    let s = c.args.store.now in
    let within = subst (λ n. c.loop-i.i < n) (c.len-i-end.ensures ∙ c.args.numbers.now.ok.0) c.loop-i-test.true in
    let long : length c.args.numbers.now.items ≡ length c.list.inside.all.items = sym c.args.numbers.now.ok.0 ∙ sym c.len.ensures ∙ c.if-len.false ∙ c.len-2.ensures ∙ c.list.inside.all.ok.0 in
    agree-more (slice_get s.trees) Some c.args.numbers.now.items c.list.inside.all.items c.loop-i.i c.index.result.now c.index-in-loop-i.result.now within long c.index.ensures c.index-in-loop-i.ensures c.loop-i.invariant (c.equals.ensures.0 c.if-not-equals.false)

pub equal_items-returns : goal.equal_items-returns
equal_items-returns t c =
    let s = c.args.store.now in
    let long : length c.args.numbers.now.items ≡ length c.list.inside.all.items = sym c.args.numbers.now.ok.0 ∙ sym c.len.ensures ∙ c.if-len.false ∙ c.len-2.ensures ∙ c.list.inside.all.ok.0 in
    let end = subst (λ n. n ≤ c.loop-i.i) (c.len-i-end.ensures ∙ c.args.numbers.now.ok.0) c.loop-i-test.false in
    let all = agree-whole (slice_get s.trees) Some c.args.numbers.now.items c.list.inside.all.items c.args.list.now c.loop-i.i end long c.list.view_is c.loop-i.invariant in (λ _. all, λ _. refl)

pub equal_members-loop-i-preserved : goal.equal_members-loop-i-preserved
equal_members-loop-i-preserved t c =
    let s = c.args.store.now in
    let within = subst (λ n. c.loop-i.i < n) (c.len-i-end.ensures ∙ c.args.numbers.now.ok.0) c.loop-i-test.true in
    let long : length c.args.numbers.now.items ≡ length c.list.inside.all.items = sym c.args.numbers.now.ok.0 ∙ sym c.len.ensures ∙ c.if-len.false ∙ c.len-2.ensures ∙ c.list.inside.all.ok.0 in
    agree-more (looked_up s.names s.trees) told c.args.numbers.now.items c.list.inside.all.items c.loop-i.i c.index.result.now c.index-in-loop-i.result.now within long c.index.ensures c.index-in-loop-i.ensures c.loop-i.invariant (c.equal_member.ensures.0 c.if-not-equal_member.false)

pub equal_members-returns : goal.equal_members-returns
equal_members-returns t c =
    let s = c.args.store.now in
    let long : length c.args.numbers.now.items ≡ length c.list.inside.all.items = sym c.args.numbers.now.ok.0 ∙ sym c.len.ensures ∙ c.if-len.false ∙ c.len-2.ensures ∙ c.list.inside.all.ok.0 in
    let end = subst (λ n. n ≤ c.loop-i.i) (c.len-i-end.ensures ∙ c.args.numbers.now.ok.0) c.loop-i-test.false in
    let all = agree-whole (looked_up s.names s.trees) told c.args.numbers.now.items c.list.inside.all.items c.args.list.now c.loop-i.i end long c.list.view_is c.loop-i.invariant in (λ _. all, λ _. refl)
