use Rattle.std.proofs.Common.{rules}
use Rattle.std.proofs.lemmas.List.Sorted.{IsPartitionPoint-from_clause, IsPartitionedBy-ltb}
use Rattle.clouds.specs.declared.mark.Mark.{Mark}
use Rattle.clouds.proofs.FirstPlaces.{HoldsNowhere-later, HoldsNowhere-range, HoldsNowhere-short, IsLeastPlace-begun, is_short, reaches_rise}
use Rattle.clouds.proofs.mark.first_reached.Goals as goal

pub returns-then-low-high : goal.returns-then-low-high
returns-then-low-high c = HoldsNowhere-range _ _ _ c.if-low-high.true

pub returns-then-short-marks : goal.returns-then-short-marks
returns-then-short-marks c =
    let parted = IsPartitionedBy-ltb (λ (mark : Mark). mark.reach) c.args.marks.now c.args.revision (reaches_rise _ c.requires) in
    let parts = IsPartitionPoint-from_clause (is_short c.args.revision) _ _ c.partition_point-short.ensures.partitioned parted (λ a r q k. search rules) in
    HoldsNowhere-short _ _ _ _ _ c.requires parts c.if-short-marks.true

pub returns-then-begins-high : goal.returns-then-begins-high
returns-then-begins-high c =
    let parted = IsPartitionedBy-ltb (λ (mark : Mark). mark.reach) c.args.marks.now c.args.revision (reaches_rise _ c.requires) in
    let parts = IsPartitionPoint-from_clause (is_short c.args.revision) _ _ c.partition_point-short.ensures.partitioned parted (λ a r q k. search rules) in
    HoldsNowhere-later _ _ _ _ _ _ c.requires parts c.if-begins-high.true

pub returns : goal.returns
returns c =
    let parted = IsPartitionedBy-ltb (λ (mark : Mark). mark.reach) c.args.marks.now c.args.revision (reaches_rise _ c.requires) in
    let parts = IsPartitionPoint-from_clause (is_short c.args.revision) _ _ c.partition_point-short.ensures.partitioned parted (λ a r q k. search rules) in
    IsLeastPlace-begun _ _ _ _ _ _ _ c.requires parts c.if-short-marks.false c.if-low-high.false c.if-begins-high.false c.max.ensures
