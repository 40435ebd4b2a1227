use Rattle.std.proofs.Common.{◌≡◌, ◌-◌, ◌<◌, ◌≤◌, ap, get_or, arith}
use Rattle.rbac_timeline.specs.declared.history.Gap.{Gap}
use Rattle.base_types.proofs.Upto.{greatest_upto, last_upto, none_upto}
use Rattle.rbac_timeline.proofs.history.Gaps.behind.Goals as goal

pub returns-then-upto-eq0-clause-none : goal.returns-then-upto-eq0-clause-none
returns-then-upto-eq0-clause-none c =
    let upto_is = rw c.as_slice.ensures.value at c.gaps_upto-upto.ensures in
    let parts = upto_is.parts in
    rw (← c.self.view_is) (λ gap among same.
    let above : c.args.last < gap.last = none_upto (λ (g : Gap). g.last) c.self.inside.gaps.items c.args.last _ parts c.if-upto-eq0.true gap among in
    omega arith)

pub returns-then-gap-last-clause-none : goal.returns-then-gap-last-clause-none
returns-then-gap-last-clause-none c =
    let upto_is = rw c.as_slice.ensures.value at c.gaps_upto-upto.ensures in
    let parts = upto_is.parts in
    let bound = upto_is.bound in
    let upto = last_upto (λ (g : Gap). g.last) c.self.inside.gaps.items c.args.last _ c.index-gap.result.now parts (omega arith) bound in
    let is : c.index-gap.result.now.last ≡ (get_or c.self.inside.gaps.items (c.gaps_upto-upto.result - 1) c.index-gap.result.now).last = ap (λ (g : Gap). g.last) c.index-gap.ensures in
    rw (← c.self.view_is) (λ gap among same.
    let below : gap.last ≤ (get_or c.self.inside.gaps.items (c.gaps_upto-upto.result - 1) c.index-gap.result.now).last =
    greatest_upto (λ (g : Gap). g.last) c.self.inside.gaps.items c.args.last _ c.index-gap.result.now c.self.invariant parts (omega arith) bound gap among (omega arith) in
    let equal : c.index-gap.result.now.last ≡ c.args.last = omega arith in
    c.if-gap-last.true equal)
