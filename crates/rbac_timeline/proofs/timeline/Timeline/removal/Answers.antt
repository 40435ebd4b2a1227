use Rattle.std.proofs.Common.{◌≡◌, [], ap, refl, sym}
use Rattle.clouds.specs.Items.{items_at, items_of}
use Rattle.clouds.specs.Kept.{key_order}
use Rattle.rbac_timeline.proofs.Holding.{IsRemovalOf-found, no_gap}
use Rattle.std.proofs.Common.{None}
use Rattle.rbac_timeline.proofs.timeline.Timeline.removal.Goals as goal

pub returns-in-Some : goal.returns-in-Some
returns-in-Some c =
    rw (← c.self.view_is) (IsRemovalOf-found c.self.inside.removals _ c.args.key.now c.args.last c.behind.result c.in-Some.gaps.now c.self.invariant.removals (ap items_of (sym c.in-Some.ensures.value))
    c.behind.ensures.some c.behind.ensures.last c.behind.ensures.none)

pub returns-in-None : goal.returns-in-None
returns-in-None c =
    let empty : items_at key_order c.self.inside.removals c.args.key.now ≡ [] = ap items_of (sym c.in-None.ensures.value) in
    rw (← c.self.view_is) (IsRemovalOf-found c.self.inside.removals _ c.args.key.now c.args.last None _ c.self.invariant.removals empty tt tt (no_gap _ c.args.last refl))
