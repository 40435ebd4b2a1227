use Rattle.std.proofs.Common.{◌≡◌, [], ap, sym}
use Rattle.clouds.specs.Items.{items_at, items_of}
use Rattle.clouds.specs.Kept.{key_order}
use Rattle.rbac_timeline.proofs.Holding.{IfNone-version, IfSome-version, no_version, none_in_empty}
use Rattle.rbac_timeline.proofs.timeline.Timeline.latest.Goals as goal

pub returns-in-None-clause-none : goal.returns-in-None-clause-none
returns-in-None-clause-none c =
    let empty : items_at key_order c.self.inside.histories c.args.key.now ≡ [] = ap items_of (sym c.in-None.ensures.value) in
    rw (← c.self.view_is) (no_version c.self.inside.histories _ c.args.key.now c.args.place c.self.invariant.stored (none_in_empty _ c.args.place empty))

pub returns-in-Some-clause-some : goal.returns-in-Some-clause-some
returns-in-Some-clause-some c =
    rw (← c.self.view_is) (IfSome-version c.self.inside.histories _ c.args.key.now c.args.place c.latest.result c.in-Some.history.now c.self.invariant.stored (ap items_of (sym c.in-Some.ensures.value)) c.latest.ensures.some)

pub returns-in-Some-clause-none : goal.returns-in-Some-clause-none
returns-in-Some-clause-none c =
    rw (← c.self.view_is) (IfNone-version c.self.inside.histories _ c.args.key.now c.args.place c.latest.result c.in-Some.history.now c.self.invariant.stored (ap items_of (sym c.in-Some.ensures.value)) c.latest.ensures.none)
