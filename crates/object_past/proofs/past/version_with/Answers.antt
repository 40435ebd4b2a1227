use Rattle.std.proofs.Common.{◌≢◌, ◌-◌, get_or, leb, arith, rules, sym, ap, ◌∙◌}
use Rattle.std.proofs.lemmas.List.Sorted.{IsPartitionPoint-from_clause, IsPartitionedBy-leb}
use Rattle.object_past.specs.declared.version.Version.{Version}
use Rattle.base_types.proofs.Upto.{none_upto}
use Rattle.object_past.proofs.Searching.{in_order, number_found, number_none, unnumbered}
use Rattle.object_past.proofs.past.version_with.Goals as goal

pub returns-then-upto-eq0 : goal.returns-then-upto-eq0
returns-then-upto-eq0 c =
    let order = in_order (λ (v : Version). v.revision) c.args.versions.now c.requires in
    let parted = IsPartitionedBy-leb (λ (v : Version). v.revision) c.args.versions.now c.args.revision order in
    let parts = IsPartitionPoint-from_clause (λ (v : Version). leb v.revision c.args.revision) _ _ c.partition_point-upto.ensures.partitioned parted (λ a r q k. search rules) in
    sym (number_none (λ v. v.revision) c.args.versions.now c.args.revision
    (λ v among is. let above = none_upto (λ (v : Version). v.revision) c.args.versions.now c.args.revision _ parts c.if-upto-eq0.true v among in omega arith))

pub returns-then-get-revision : goal.returns-then-get-revision
returns-then-get-revision c =
    let order = in_order (λ (v : Version). v.revision) c.args.versions.now c.requires in
    let parted = IsPartitionedBy-leb (λ (v : Version). v.revision) c.args.versions.now c.args.revision order in
    let parts = IsPartitionPoint-from_clause (λ (v : Version). leb v.revision c.args.revision) _ _ c.partition_point-upto.ensures.partitioned parted (λ a r q k. search rules) in
    let here : (get_or c.args.versions.now (c.partition_point-upto.result - 1) c.index-versions-upto.result).revision ≢ c.args.revision =
    λ is. c.if-get-revision.true (c.get.ensures.value ∙ ap (λ (v : Version). v.revision) c.index-versions-upto.is ∙ is) in
    sym (number_none (λ v. v.revision) c.args.versions.now c.args.revision
    (unnumbered (λ (v : Version). v.revision) c.args.versions.now c.args.revision _ _ order parts (omega arith) c.partition_point-upto.ensures.bound here))

pub returns : goal.returns
returns c =
    let bound = c.partition_point-upto.ensures.bound in
    sym (number_found (λ v. v.revision) c.args.versions.now c.args.revision c.index-versions-upto.result c.requires
    (c.partition_point-upto.result - 1, omega arith, sym c.index-versions-upto.is)
    (sym c.get.ensures.value ∙ c.if-get-revision.false))
