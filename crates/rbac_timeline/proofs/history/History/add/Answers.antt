use Rattle.std.proofs.lemmas.List.Sorted.{IsPermutation-insert}
use Rattle.rbac_timeline.specs.declared.history.Stored.{Stored}
use Rattle.rbac_timeline.proofs.Ordered.{insert_in_order}
use Rattle.rbac_timeline.proofs.history.History.add.Goals as goal

pub invariant_of-self-2 : goal.invariant_of-self-2
invariant_of-self-2 c =
    let upto = rw c.as_slice.ensures.value at c.count_upto-place.ensures in
    rw c.in_ok-insert.ensures.items (insert_in_order (λ (s : Stored). s.revision) c.self.inside.stored.items c.args.stored _ c.self.invariant upto.parts upto.bound)

pub returns : goal.returns
returns c = rw (c.in_ok-insert.ensures.items, ← c.self.view_is) (IsPermutation-insert c.self.inside.stored.items c.count_upto-place.result c.args.stored)
