use Rattle.std.proofs.Common.{rules}
use Rattle.std.proofs.lemmas.List.Sorted.{IsPartitionPoint-from_clause, IsPartitionedBy-leb}
use Rattle.std.proofs.Math.Dec.{leb}
use Rattle.rbac_timeline.specs.declared.history.Gap.{Gap}
use Rattle.rbac_timeline.proofs.history.gaps_upto.Goals as goal

pub returns-clause-parts : goal.returns-clause-parts
returns-clause-parts c =
    let parted = IsPartitionedBy-leb (λ (x : Gap). x.last) c.args.all.now c.args.last c.requires in
    IsPartitionPoint-from_clause (λ (x : Gap). leb x.last c.args.last) _ _ c.partition_point.ensures.partitioned parted (λ a r q k. search rules)
