use Rattle.std.proofs.Common.{ℕ, rules}
use Rattle.std.proofs.lemmas.List.Sorted.{IsPartitionPoint-from_clause, IsPartitionedBy-leb}
use Rattle.clouds.proofs.Fronts.{AreUpto-take}
use Rattle.clouds.proofs.Searching.{is_upto}
use Rattle.clouds.proofs.lengths.Lengths.upto.Goals as goal

pub returns : goal.returns
returns c =
    let clause = rw c.deref.ensures.value at c.partition_point-count.ensures.partitioned in
    let bound = rw c.deref.ensures.value at c.partition_point-count.ensures.bound in
    let front = rw c.deref-2.ensures.value at c.split_at.ensures.front in
    let parted = IsPartitionedBy-leb (λ (length : ℕ). length) c.self.inside.lengths.items c.args.most c.self.invariant in
    let parts = IsPartitionPoint-from_clause (is_upto c.args.most) _ _ clause parted (λ a r q k. search rules) in
    rw (← c.self.view_is) (AreUpto-take _ _ _ _ front parts bound)
