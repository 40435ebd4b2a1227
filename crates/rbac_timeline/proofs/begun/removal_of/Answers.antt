use Rattle.std.proofs.Common.{◌≡◌, [], None, ap, refl, sym}
use Rattle.clouds.specs.Items.{items_at, items_of}
use Rattle.clouds.specs.Kept.{key_order}
use Rattle.rbac_timeline.proofs.Holding.{IsRemovalOf-found, no_gap}
use Rattle.rbac_timeline.proofs.begun.removal_of.Goals as goal

pub returns-in-Some : goal.returns-in-Some
returns-in-Some c = λ ends are.
    IsRemovalOf-found c.args.removals.now ends c.args.key.now c.args.last c.behind.result c.in-Some.gaps.now are (ap items_of (sym c.in-Some.ensures.value))
    c.behind.ensures.some c.behind.ensures.last c.behind.ensures.none

pub returns-in-None : goal.returns-in-None
returns-in-None c = λ ends are.
    let empty : items_at key_order c.args.removals.now c.args.key.now ≡ [] = ap items_of (sym c.in-None.ensures.value) in
    IsRemovalOf-found c.args.removals.now ends c.args.key.now c.args.last None _ are empty tt tt (no_gap _ c.args.last refl)
