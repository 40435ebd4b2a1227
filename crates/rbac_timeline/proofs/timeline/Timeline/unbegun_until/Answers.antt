use Rattle.std.proofs.Common.{◌≡◌, ℕ, ◌<◌, [], ap, arith, sym}
use Rattle.std.specs.List.{Contains}
use Rattle.clouds.specs.Items.{items_at, items_of}
use Rattle.clouds.specs.Kept.{key_order}
use Rattle.rbac_timeline.specs.declared.history.Stored.{Stored}
use Rattle.rbac_timeline.proofs.Throughout.{IsLast-all, IsLast-map, NoneBegins-known, NoneBegins-stored}
use Rattle.rbac_timeline.proofs.timeline.Timeline.unbegun_until.Goals as goal

pub returns-in-Some : goal.returns-in-Some
returns-in-Some c =
    rw (← c.self.view_is) (IsLast-map (λ (n : ℕ). (stored : Stored) → Contains c.in-Some.history.now stored → c.args.place < stored.revision → n < stored.revision) _ c.args.place c.args.high _
    (λ n from upto none. NoneBegins-stored c.self.inside.histories _ c.args.key.now c.args.place n c.in-Some.history.now c.self.invariant.stored (ap items_of (sym c.in-Some.ensures.value)) none)
    (λ n none. NoneBegins-known c.self.inside.histories _ c.args.key.now c.args.place n c.in-Some.history.now c.self.invariant.stored (ap items_of (sym c.in-Some.ensures.value)) none)
    c.unbegun_until.ensures)

pub returns-in-None : goal.returns-in-None
returns-in-None c =
    let empty : items_at key_order c.self.inside.histories c.args.key.now ≡ [] = ap items_of (sym c.in-None.ensures.value) in
    rw (← c.self.view_is) (IsLast-all _ c.args.place c.args.high c.requires
    (λ n from upto. NoneBegins-stored c.self.inside.histories _ c.args.key.now c.args.place n [] c.self.invariant.stored empty (λ stored among above. let within = among.1 in absurd (omega arith))))
