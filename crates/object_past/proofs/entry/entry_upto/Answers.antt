use Rattle.std.proofs.Common.{◌<◌, ◌≤◌, ◌-◌, get_or, leb, arith, rules}
use Rattle.std.proofs.lemmas.List.Sorted.{IsPartitionPoint-from_clause, IsPartitionedBy-leb}
use Rattle.history_model.proofs.Members.{all_from}
use Rattle.object_past.specs.declared.entry.Entry.{Entry}
use Rattle.base_types.proofs.Upto.{none_upto, last_upto, greatest_upto}
use Rattle.object_past.proofs.entry.entry_upto.Goals as goal

pub returns-then-upto-eq0-clause-none : goal.returns-then-upto-eq0-clause-none
returns-then-upto-eq0-clause-none c =
    let parted = IsPartitionedBy-leb (λ (e : Entry). e.revision) c.args.entries.now c.args.place c.requires in
    let parts = IsPartitionPoint-from_clause (λ (e : Entry). leb e.revision c.args.place) _ _ c.partition_point-upto.ensures.partitioned parted (λ a r q k. search rules) in
    all_from (λ e. c.args.place < e.revision) c.args.entries.now (none_upto (λ (e : Entry). e.revision) c.args.entries.now c.args.place _ parts c.if-upto-eq0.true)

pub returns-clause-upto : goal.returns-clause-upto
returns-clause-upto c =
    let parted = IsPartitionedBy-leb (λ (e : Entry). e.revision) c.args.entries.now c.args.place c.requires in
    let parts = IsPartitionPoint-from_clause (λ (e : Entry). leb e.revision c.args.place) _ _ c.partition_point-upto.ensures.partitioned parted (λ a r q k. search rules) in
    last_upto (λ (e : Entry). e.revision) c.args.entries.now c.args.place _ _ parts (omega arith) c.partition_point-upto.ensures.bound

pub returns-clause-last : goal.returns-clause-last
returns-clause-last c =
    let parted = IsPartitionedBy-leb (λ (e : Entry). e.revision) c.args.entries.now c.args.place c.requires in
    let parts = IsPartitionPoint-from_clause (λ (e : Entry). leb e.revision c.args.place) _ _ c.partition_point-upto.ensures.partitioned parted (λ a r q k. search rules) in
    all_from (λ e. e.revision ≤ c.args.place → e.revision ≤ (get_or c.args.entries.now (c.partition_point-upto.result - 1) (record { revision = 0; position = 0 })).revision) c.args.entries.now
    (greatest_upto (λ (e : Entry). e.revision) c.args.entries.now c.args.place _ (record { revision = 0; position = 0 }) c.requires parts (omega arith) c.partition_point-upto.ensures.bound)
