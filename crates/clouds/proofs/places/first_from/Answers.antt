use Rattle.std.proofs.Common.{ℕ, rules}
use Rattle.std.proofs.lemmas.List.Sorted.{IsPartitionPoint-from_clause, IsPartitionedBy-ltb}
use Rattle.clouds.proofs.Searching.{HoldsNowhere-end, HoldsNowhere-far, IsLeastPlace-at, is_below}
use Rattle.clouds.proofs.places.first_from.Goals as goal

pub returns-then-before-places : goal.returns-then-before-places
returns-then-before-places c =
    let parted = IsPartitionedBy-ltb (λ (place : ℕ). place) c.args.places.now c.args.low c.requires in
    let parts = IsPartitionPoint-from_clause (is_below c.args.low) _ _ c.partition_point-before.ensures.partitioned parted (λ a r q k. search rules) in
    HoldsNowhere-end _ _ _ _ c.requires parts c.if-before-places.true

pub returns-then-place-high : goal.returns-then-place-high
returns-then-place-high c =
    let parted = IsPartitionedBy-ltb (λ (place : ℕ). place) c.args.places.now c.args.low c.requires in
    let parts = IsPartitionPoint-from_clause (is_below c.args.low) _ _ c.partition_point-before.ensures.partitioned parted (λ a r q k. search rules) in
    HoldsNowhere-far _ _ _ _ _ c.requires parts c.if-place-high.true

pub returns : goal.returns
returns c =
    let parted = IsPartitionedBy-ltb (λ (place : ℕ). place) c.args.places.now c.args.low c.requires in
    let parts = IsPartitionPoint-from_clause (is_below c.args.low) _ _ c.partition_point-before.ensures.partitioned parted (λ a r q k. search rules) in
    IsLeastPlace-at _ _ _ _ _ c.requires parts c.if-before-places.false c.if-place-high.false
