use Rattle.std.proofs.Common.{◌≢◌, leb, arith, rules}
use Rattle.std.proofs.lemmas.List.Sorted.{IsPartitionPoint-from_clause, IsPartitionedBy-leb}
use Rattle.history_model.proofs.Members.{all_from}
use Rattle.object_past.specs.declared.ending.Ending.{Ending}
use Rattle.base_types.proofs.Upto.{none_upto}
use Rattle.object_past.proofs.Searching.{unnumbered}
use Rattle.object_past.proofs.ending.ending_behind.Goals as goal

pub returns-then-upto-eq0-clause-none : goal.returns-then-upto-eq0-clause-none
returns-then-upto-eq0-clause-none c =
    let parted = IsPartitionedBy-leb (λ (e : Ending). e.last) c.args.endings.now c.args.last c.requires in
    let parts = IsPartitionPoint-from_clause (λ (e : Ending). leb e.last c.args.last) _ _ c.partition_point-upto.ensures.partitioned parted (λ a r q k. search rules) in
    all_from (λ e. e.last ≢ c.args.last) c.args.endings.now
    (λ e among is. let above = none_upto (λ (e : Ending). e.last) c.args.endings.now c.args.last _ parts c.if-upto-eq0.true e among in omega arith)

pub returns-then-ending-last-clause-none : goal.returns-then-ending-last-clause-none
returns-then-ending-last-clause-none c =
    let parted = IsPartitionedBy-leb (λ (e : Ending). e.last) c.args.endings.now c.args.last c.requires in
    let parts = IsPartitionPoint-from_clause (λ (e : Ending). leb e.last c.args.last) _ _ c.partition_point-upto.ensures.partitioned parted (λ a r q k. search rules) in
    all_from (λ e. e.last ≢ c.args.last) c.args.endings.now
    (unnumbered (λ (e : Ending). e.last) c.args.endings.now c.args.last _ _ c.requires parts (omega arith) c.partition_point-upto.ensures.bound c.if-ending-last.true)
