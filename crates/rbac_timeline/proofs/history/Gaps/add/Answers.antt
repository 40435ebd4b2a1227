use Rattle.std.proofs.lemmas.List.Sorted.{IsPermutation-insert}
use Rattle.rbac_timeline.specs.declared.history.Gap.{Gap}
use Rattle.rbac_timeline.proofs.Ordered.{insert_in_order}
use Rattle.rbac_timeline.proofs.history.Gaps.add.Goals as goal

pub invariant_of-self-2 : goal.invariant_of-self-2
invariant_of-self-2 c =
    let upto = rw c.as_slice.ensures.value at c.gaps_upto-place.ensures in
    rw c.in_ok-insert.ensures.items (insert_in_order (λ (g : Gap). g.last) c.self.inside.gaps.items c.args.gap _ c.self.invariant upto.parts upto.bound)

pub returns : goal.returns
returns c = rw (c.in_ok-insert.ensures.items, ← c.self.view_is) (IsPermutation-insert c.self.inside.gaps.items c.gaps_upto-place.result c.args.gap)
