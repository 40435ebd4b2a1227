use Rattle.std.proofs.Common.{◌≢◌, ◌-◌, get_or, leb, arith, rules, sym, ap, ◌∙◌}
use Rattle.std.proofs.lemmas.List.Sorted.{IsPartitionPoint-from_clause, IsPartitionedBy-leb}
use Rattle.base_types.proofs.Upto.{none_upto}
use Rattle.object_past.proofs.Searching.{in_order, number_found, number_none, unnumbered}
use Rattle.write_groups.specs.declared.groups.Group.{Group}
use Rattle.log_context.proofs.readers.group_at.Goals as goal

pub returns-then-upto-eq0 : goal.returns-then-upto-eq0
returns-then-upto-eq0 c =
    let order = in_order (λ (g : Group). g.revision) c.args.groups.now c.requires in
    let parted = IsPartitionedBy-leb (λ (g : Group). g.revision) c.args.groups.now c.args.revision order in
    let parts = IsPartitionPoint-from_clause (λ (g : Group). leb g.revision c.args.revision) _ _ c.partition_point-upto.ensures.partitioned parted (λ a r q k. search rules) in
    sym (number_none (λ (g : Group). g.revision) c.args.groups.now c.args.revision
    (λ g among is. let above = none_upto (λ (g : Group). g.revision) c.args.groups.now c.args.revision _ parts c.if-upto-eq0.true g among in omega arith))

pub returns-then-get : goal.returns-then-get
returns-then-get c =
    let order = in_order (λ (g : Group). g.revision) c.args.groups.now c.requires in
    let parted = IsPartitionedBy-leb (λ (g : Group). g.revision) c.args.groups.now c.args.revision order in
    let parts = IsPartitionPoint-from_clause (λ (g : Group). leb g.revision c.args.revision) _ _ c.partition_point-upto.ensures.partitioned parted (λ a r q k. search rules) in
    let here : (get_or c.args.groups.now (c.partition_point-upto.result - 1) c.index-groups-upto.result).revision ≢ c.args.revision =
    λ is. c.if-get.true (c.get.ensures.value ∙ ap (λ (g : Group). g.revision) c.index-groups-upto.is ∙ is ∙ sym c.get-2.ensures.value) in
    sym (number_none (λ (g : Group). g.revision) c.args.groups.now c.args.revision
    (unnumbered (λ (g : Group). g.revision) c.args.groups.now c.args.revision _ _ order parts (omega arith) c.partition_point-upto.ensures.bound here))

pub returns : goal.returns
returns c =
    let bound = c.partition_point-upto.ensures.bound in
    sym (number_found (λ (g : Group). g.revision) c.args.groups.now c.args.revision c.index-groups-upto.result c.requires
    (c.partition_point-upto.result - 1, omega arith, sym c.index-groups-upto.is)
    (sym c.get.ensures.value ∙ c.if-get.false ∙ c.get-2.ensures.value))
