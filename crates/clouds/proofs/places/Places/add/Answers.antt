use Rattle.std.proofs.Common.{ℕ, rules}
use Rattle.std.proofs.lemmas.List.Sorted.{IsPartitionPoint-from_clause, IsPartitionedBy-leb, IsPermutation-insert}
use Rattle.clouds.proofs.Searching.{insert_in_order, is_upto}
use Rattle.clouds.proofs.places.Places.add.Goals as goal

pub invariant_of-self-2 : goal.invariant_of-self-2
invariant_of-self-2 c =
    let clause = rw c.deref.ensures.value at c.partition_point-index.ensures.partitioned in
    let bound = rw c.deref.ensures.value at c.partition_point-index.ensures.bound in
    let parted = IsPartitionedBy-leb (λ (place : ℕ). place) c.self.inside.places.items c.args.place c.self.invariant in
    let parts = IsPartitionPoint-from_clause (is_upto c.args.place) _ _ clause parted (λ a r q k. search rules) in
    rw c.in_ok-insert.ensures.items (insert_in_order _ _ _ c.self.invariant parts bound)

pub returns : goal.returns
returns c = rw (c.in_ok-insert.ensures.items, ← c.self.view_is) (IsPermutation-insert c.self.inside.places.items c.partition_point-index.result c.args.place)
