use Rattle.std.proofs.Common.{◌<◌, leb, AllPairs, rules, sym, subst}
use Rattle.std.proofs.lemmas.List.Sorted.{IsPartitionPoint-from_clause, IsPartitionedBy-leb}
use Rattle.object_past.proofs.Searching.{in_order}
use Rattle.object_past.specs.declared.version.Version.{Version}
use Rattle.serial_machine.proofs.Lating.{kept_behind, rising_behind, skip_front, taken_upto}
use Rattle.serial_machine.proofs.entry.versions_behind.Goals as goal

pub returns-clause-among : goal.returns-clause-among
returns-clause-among c = rw c.split_at.ensures.back (kept_behind c.args.versions.now c.partition_point-upto.result)

pub returns-clause-rising : goal.returns-clause-rising
returns-clause-rising c = subst (AllPairs (λ (a b : Version). a.revision < b.revision)) (sym c.split_at.ensures.back) (rising_behind c.args.versions.now c.partition_point-upto.result c.requires)

pub returns-clause-unmade : goal.returns-clause-unmade
returns-clause-unmade c = λ high.
    let order = in_order (λ (v : Version). v.revision) c.args.versions.now c.requires in
    let parted = IsPartitionedBy-leb (λ (v : Version). v.revision) c.args.versions.now c.args.place order in
    let parts = IsPartitionPoint-from_clause (λ (v : Version). leb v.revision c.args.place) _ _ c.partition_point-upto.ensures.partitioned parted (λ a r q k. search rules) in
    rw c.split_at.ensures.back (skip_front c.args.place high c.args.versions.now c.partition_point-upto.result (taken_upto c.args.place c.args.versions.now c.partition_point-upto.result parts c.partition_point-upto.ensures.bound))
