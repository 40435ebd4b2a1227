use Rattle.std.proofs.Common.{ℕ, ⊎_elim, rules, subst, sym}
use Rattle.std.specs.List.{Contains, insert}
use Rattle.std.proofs.lemmas.List.Sorted.{IsPartitionPoint-from_clause, IsPartitionedBy-leb, IsPermutation-insert}
use Rattle.clouds.proofs.Adding.{Grows-permuted}
use Rattle.clouds.proofs.Searching.{insert_in_order, is_upto}
use Rattle.clouds.proofs.lengths.Lengths.add.Goals as goal

pub invariant_of-self-2 : goal.invariant_of-self-2
invariant_of-self-2 c =
    let clause = rw c.deref.ensures.value at c.partition_point-place.ensures.partitioned in
    let bound = rw c.deref.ensures.value at c.partition_point-place.ensures.bound in
    let parted = IsPartitionedBy-leb (λ (length : ℕ). length) c.self.inside.lengths.items c.args.length c.self.invariant in
    let parts = IsPartitionPoint-from_clause (is_upto c.args.length) _ _ clause parted (λ a r q k. search rules) in
    rw c.in_ok-insert.ensures.items (insert_in_order _ _ _ c.self.invariant parts bound)

pub returns : goal.returns
returns c =
    let grows = Grows-permuted _ _ _ (IsPermutation-insert c.self.inside.lengths.items c.partition_point-place.result c.args.length) in
    rw (c.in_ok-insert.ensures.items, ← c.self.view_is) (λ other. (
      (λ among. grows.only other among),
      (λ either. ⊎_elim (λ old. grows.kept other old) (λ is. subst (λ l. Contains (insert c.self.inside.lengths.items c.partition_point-place.result c.args.length) l) (sym is) grows.added) either),
    ))
