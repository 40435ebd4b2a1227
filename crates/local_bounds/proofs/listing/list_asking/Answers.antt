use Rattle.std.proofs.Common.{◌≡◌, ◌≢◌, AllPairs, sym, subst}
use Rattle.std.proofs.lemmas.Result.{IfOk-weaker}
use Rattle.write_groups.proofs.Lists.{pairs_unmap}
use Rattle.write_groups.specs.declared.event.Item.{Item}
use Rattle.write_groups.specs.Modelled.{item_of, listing_of}
use Rattle.local_bounds.specs.Demands.{AreAskedOfList}
use Rattle.local_bounds.proofs.AskedLists.{list_asked}
use Rattle.local_bounds.proofs.listing.list_asking.Goals as goal

pub returns-in_default : goal.returns-in_default
returns-in_default g c =
    let none = rw c.in_default.is at c.in_ok-shown.ensures.none in
    let items : c.as_slice.result.now ≡ c.args.listing.now.items = c.as_slice.ensures in
    λ h k s choice chosen (x, l, m, right). none (subst (AllPairs (λ (a b : Item). a.key ≢ b.key)) (sym items) (pairs_unmap item_of (λ a b. a.key ≢ b.key) c.args.listing.now.items right.distinct))

pub returns : goal.returns
returns g c =
    let some = rw c.in-Some.is at c.in_ok-shown.ensures.some in
    let distinct = rw c.as_slice.ensures at some.0 in
    IfOk-weaker c.together.result _ _ (λ asking t h k s. list_asked h k.of_past.readable c.args.number c.get-place.result c.args.window.low c.args.window.high c.args.listing.now c.get-place.ensures.value distinct c.deref-2.result.now asking
    (subst (AreAskedOfList h c.args.number (listing_of c.args.listing.now)) (sym c.deref-2.ensures.value) (c.in_ok-askings.ensures h k s)) c.if-place-window.false c.if-window-place.false t) c.together.ensures
