use Rattle.std.proofs.Common.{ℕ, ◌<◌, slice_index_or, arith, rules}
use Rattle.std.proofs.lemmas.Bool.{leb-false}
use Rattle.std.proofs.lemmas.List.Sorted.{IsPartitionPoint-from_clause, IsPartitionedBy-leb}
use Rattle.clouds.proofs.Searching.{IsLastBeforeNext-end, IsLastBeforeNext-found, is_upto}
use Rattle.clouds.proofs.places.last_before_next.Goals as goal

pub returns-then-upto-revisions : goal.returns-then-upto-revisions
returns-then-upto-revisions c =
    let parted = IsPartitionedBy-leb (λ (revision : ℕ). revision) c.args.revisions.now c.args.place c.requires in
    let parts = IsPartitionPoint-from_clause (is_upto c.args.place) _ _ c.partition_point-upto.ensures.partitioned parted (λ a r q k. search rules) in
    let fits = c.ranges.place.fits in
    IsLastBeforeNext-end _ _ _ parts c.if-upto-revisions.true (omega arith)

pub returns : goal.returns
returns c =
    let parted = IsPartitionedBy-leb (λ (revision : ℕ). revision) c.args.revisions.now c.args.place c.requires in
    let parts = IsPartitionPoint-from_clause (is_upto c.args.place) _ _ c.partition_point-upto.ensures.partitioned parted (λ a r q k. search rules) in
    IsLastBeforeNext-found _ _ _ _ c.requires parts c.if-upto-revisions.false

pub overflow_sub-result : goal.overflow_sub-result
overflow_sub-result c =
    let parted = IsPartitionedBy-leb (λ (revision : ℕ). revision) c.args.revisions.now c.args.place c.requires in
    let parts = IsPartitionPoint-from_clause (is_upto c.args.place) _ _ c.partition_point-upto.ensures.partitioned parted (λ a r q k. search rules) in
    let above : c.args.place < slice_index_or c.args.revisions.now c.partition_point-upto.result 0 =
    leb-false _ c.args.place (parts.1 c.partition_point-upto.result 0 (omega arith) c.if-upto-revisions.false) in
    omega arith
