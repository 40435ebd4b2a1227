use Rattle.std.proofs.Common.{◌≡◌, ℕ, ◌<◌, ◌≤◌, ap, get_or, sym, arith}
use Rattle.std.specs.List.{Contains}
use Rattle.rbac_timeline.specs.declared.history.Stored.{Stored}
use Rattle.rbac_timeline.proofs.Throughout.{IsLast-all, IsLast-map}
use Rattle.rbac_timeline.proofs.Ordered.{all_upto, first_above, least_above}
use Rattle.rbac_timeline.proofs.history.History.unbegun_until.Goals as goal

pub returns-then-upto-len : goal.returns-then-upto-len
returns-then-upto-len c =
    let upto_is = rw c.as_slice.ensures.value at c.count_upto-upto.ensures in
    let parts = upto_is.parts in
    rw (← c.self.view_is) (IsLast-all (λ (n : ℕ). (stored : Stored) → Contains c.self.inside.stored.items stored → c.args.place < stored.revision → n < stored.revision) c.args.place c.args.high c.requires
    (λ n from upto stored among above. let below = all_upto (λ (s : Stored). s.revision) c.self.inside.stored.items c.args.place _ parts (omega arith) stored among in absurd (omega arith)))

pub last_before-requires : goal.last_before-requires
last_before-requires c =
    let upto_is = rw c.as_slice.ensures.value at c.count_upto-upto.ensures in
    let parts = upto_is.parts in
    record { behind = rw c.index.ensures (first_above (λ (s : Stored). s.revision) c.self.inside.stored.items c.args.place _ _ parts (omega arith)); within = c.requires }

pub returns : goal.returns
returns c =
    let upto_is = rw c.as_slice.ensures.value at c.count_upto-upto.ensures in
    let parts = upto_is.parts in
    rw (← c.self.view_is) (IsLast-map (λ (n : ℕ). n < c.index.result.now.revision) (λ (n : ℕ). (stored : Stored) → Contains c.self.inside.stored.items stored → c.args.place < stored.revision → n < stored.revision) c.args.place c.args.high c.last_before.result
    (λ n from upto before stored among above.
    let least : (get_or c.self.inside.stored.items c.count_upto-upto.result c.index.result.now).revision ≤ stored.revision =
    least_above (λ (s : Stored). s.revision) c.self.inside.stored.items c.args.place c.count_upto-upto.result c.index.result.now c.self.invariant parts (omega arith) stored among above in
    let is : c.index.result.now.revision ≡ (get_or c.self.inside.stored.items c.count_upto-upto.result c.index.result.now).revision = ap (λ (s : Stored). s.revision) c.index.ensures in
    omega arith)
    (λ n none. none c.index.result.now (c.count_upto-upto.result, omega arith, sym c.index.ensures) (rw c.index.ensures (first_above (λ (s : Stored). s.revision) c.self.inside.stored.items c.args.place _ _ parts (omega arith))))
    c.last_before.ensures)
