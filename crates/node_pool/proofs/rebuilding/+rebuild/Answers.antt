use Rattle.std.proofs.Common.{◌≡◌, ◌+◌, ◌≤◌, ◌∙◌, Some, get_or, length, map, take, slice_get, sym, ap, subst}
use Rattle.node_pool.specs.Flat.{flat_of}
use Rattle.node_pool.specs.Within.{looked_up, told, tree_of}
use Rattle.node_pool.proofs.Looks.{StandsAt, items-copied, members-copied, copied-sorted, take-whole}
use Rattle.node_pool.proofs.Prefixes.{gathered-more}
use Rattle.node_pool.proofs.rebuilding.+rebuild.Goals as goal

pub rebuild-returns-in_ok-rebuild_items-in-Items : goal.rebuild-returns-in_ok-rebuild_items-in-Items
rebuild-returns-in_ok-rebuild_items-in-Items t c =
    let s = c.args.store.now in
    let stands : StandsAt s.names s.trees c.args.number c.in-Some.level.now = record { tree = c.in-Some.ensures.tree; before = c.in-Some.ensures.before } in
    items-copied s.names s.trees c.args.number c.in-Some.level.now c.in-Items.numbers.items c.in_ok-rebuild_items-in-Items.field-0 stands (sym c.level-2.view_is ∙ ap flat_of c.in-Items.is) c.in_ok-rebuild_items-in-Items.ensures

pub rebuild-returns-in_ok-rebuild_members-in-Members : goal.rebuild-returns-in_ok-rebuild_members-in-Members
rebuild-returns-in_ok-rebuild_members-in-Members t c =
    let s = c.args.store.now in
    let stands : StandsAt s.names s.trees c.args.number c.in-Some.level.now = record { tree = c.in-Some.ensures.tree; before = c.in-Some.ensures.before } in
    members-copied s.names s.trees c.args.number c.in-Some.level.now c.in-Members.numbers.items c.in_ok-rebuild_members-in-Members.field-0 stands (sym c.level-2.view_is ∙ ap flat_of c.in-Members.is) c.in_ok-rebuild_members-in-Members.ensures

pub rebuild_members-invariant_of-result : goal.rebuild_members-invariant_of-result
rebuild_members-invariant_of-result t c =
    let s = c.args.store.now in
    let n = c.args.numbers.now.items in
    let end : length c.deref-name-items.result.now ≤ c.loop-name.name-index = c.loop-name-test.false in
    let whole : take c.loop-name.name-index c.deref-name-items.result.now ≡ n = take-whole c.loop-name.name-index c.deref-name-items.result.now end ∙ c.deref-name-items.ensures.value in
    copied-sorted s.names s.trees n c.loop-name.all.items (ap (map (looked_up s.names s.trees)) (sym whole) ∙ c.loop-name.invariant) c.requires.sorted

pub rebuild-returns-in-Null : goal.rebuild-returns-in-Null
rebuild-returns-in-Null t c =
    let s = c.args.store.now in
    sym c.in-Some.ensures.tree ∙ ap (λ p. Some (tree_of s.names s.trees p)) (sym c.level-2.view_is ∙ ap flat_of c.in-Null.is)

pub rebuild-returns-in-Flag : goal.rebuild-returns-in-Flag
rebuild-returns-in-Flag t c =
    let s = c.args.store.now in
    sym c.in-Some.ensures.tree ∙ ap (λ p. Some (tree_of s.names s.trees p)) (sym c.level-2.view_is ∙ ap flat_of c.in-Flag.is)

pub rebuild_items-loop-number-preserved : goal.rebuild_items-loop-number-preserved
rebuild_items-loop-number-preserved t c =
    let l = c.loop-number in
    let trees = c.args.store.now.trees in
    let ns = c.deref-number-items.result.now in
    subst (λ xs. map (slice_get trees) (take (l.number-index + 1) ns) ≡ map Some xs) (sym c.in_ok-push.ensures.items)
    (gathered-more (slice_get trees) Some ns l.all.items l.number-index 0 c.in_ok-rebuild.field-0 c.loop-number-test.true l.invariant c.in_ok-rebuild.ensures)

pub rebuild_items-returns : goal.rebuild_items-returns
rebuild_items-returns t c =
    let l = c.loop-number in
    let ns = c.deref-number-items.result.now in
    let whole : take l.number-index ns ≡ c.args.numbers.now.items = take-whole l.number-index ns c.loop-number-test.false ∙ c.deref-number-items.ensures.value in
    ap (map (slice_get c.args.store.now.trees)) (sym whole) ∙ l.invariant

pub rebuild_members-loop-name-preserved : goal.rebuild_members-loop-name-preserved
rebuild_members-loop-name-preserved t c =
    let l = c.loop-name in
    let s = c.args.store.now in
    let ns = c.deref-name-items.result.now in
    let m = get_or ns l.name-index (0, 0) in
    let named = sym (c.in_ok-name.ensures ∙ c.name.ensures) in
    let found = c.in_ok-value.ensures in
    let looks : looked_up s.names s.trees m ≡ told (c.in_ok-name.name, c.in_ok-value.value) = λ j. (named j, found j) in
    subst (λ xs. map (looked_up s.names s.trees) (take (l.name-index + 1) ns) ≡ map told xs) (sym c.in_ok-push.ensures.items)
    (gathered-more (looked_up s.names s.trees) told ns l.all.items l.name-index (0, 0) (c.in_ok-name.name, c.in_ok-value.value) c.loop-name-test.true l.invariant looks)

pub rebuild_members-returns : goal.rebuild_members-returns
rebuild_members-returns t c =
    let l = c.loop-name in
    let s = c.args.store.now in
    let ns = c.deref-name-items.result.now in
    let whole : take l.name-index ns ≡ c.args.numbers.now.items = take-whole l.name-index ns c.loop-name-test.false ∙ c.deref-name-items.ensures.value in
    ap (map (looked_up s.names s.trees)) (sym whole) ∙ l.invariant
