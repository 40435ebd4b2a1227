use Rattle.std.proofs.Common.{arith, rules}
use Rattle.std.proofs.lemmas.Bool.{false≢true, le-leb, leb-true}
use Rattle.std.proofs.lemmas.List.Sorted.{IsPartitionPoint-from_clause, IsPartitionedBy-ltb}
use Rattle.clouds.specs.declared.mark.Mark.{Mark}
use Rattle.clouds.proofs.Searching.{begins_below, reaches_from, reaches_none, reaches_upto}
use Rattle.clouds.proofs.mark.reaches.Goals as goal

pub returns-then-begun-eq0 : goal.returns-then-begun-eq0
returns-then-begun-eq0 c =
    let parted = IsPartitionedBy-ltb (λ (mark : Mark). mark.low) c.args.marks.now c.args.place c.requires.rising in
    let parts = IsPartitionPoint-from_clause (begins_below c.args.place) _ _ c.partition_point-begun.ensures.partitioned parted (λ a r q k. search rules) in
    ((λ no. absurd (false≢true no)), λ any. absurd (reaches_none _ _ _ _ parts c.if-begun-eq0.true any))

pub returns : goal.returns
returns c =
    let parted = IsPartitionedBy-ltb (λ (mark : Mark). mark.low) c.args.marks.now c.args.place c.requires.rising in
    let parts = IsPartitionPoint-from_clause (begins_below c.args.place) _ _ c.partition_point-begun.ensures.partitioned parted (λ a r q k. search rules) in
    let bound = c.partition_point-begun.ensures.bound in (
      (λ yes. reaches_from _ _ _ _ _ c.requires parts (omega arith) bound (leb-true _ _ yes)),
      (λ any. le-leb _ _ (reaches_upto _ _ _ _ _ c.requires parts (omega arith) bound any)),
    )
