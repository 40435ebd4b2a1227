use Rattle.std.proofs.Common.{ℕ, arith, rules}
use Rattle.std.proofs.lemmas.List.Sorted.{IsPartitionPoint-from_clause, IsPartitionedBy-leb}
use Rattle.clouds.proofs.Searching.{IsLatest-found, IsLatest-none, is_upto}
use Rattle.clouds.proofs.places.latest.Goals as goal

pub returns-then-upto-eq0 : goal.returns-then-upto-eq0
returns-then-upto-eq0 c =
    let parted = IsPartitionedBy-leb (λ (revision : ℕ). revision) c.args.revisions.now c.args.place c.requires in
    let parts = IsPartitionPoint-from_clause (is_upto c.args.place) _ _ c.partition_point-upto.ensures.partitioned parted (λ a r q k. search rules) in
    IsLatest-none _ _ _ parts c.if-upto-eq0.true

pub returns : goal.returns
returns c =
    let parted = IsPartitionedBy-leb (λ (revision : ℕ). revision) c.args.revisions.now c.args.place c.requires in
    let parts = IsPartitionPoint-from_clause (is_upto c.args.place) _ _ c.partition_point-upto.ensures.partitioned parted (λ a r q k. search rules) in
    IsLatest-found _ _ _ _ c.requires parts (omega arith) c.partition_point-upto.ensures.bound
