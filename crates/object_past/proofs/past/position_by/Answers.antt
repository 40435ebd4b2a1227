use Rattle.std.proofs.Common.{◌-◌, ◌<◌, length, leb, arith, rules, refl, sym, ap, ◌∙◌}
use Rattle.std.proofs.lemmas.List.Sorted.{IsPartitionPoint-from_clause, IsPartitionedBy-leb}
use Rattle.std.proofs.lemmas.Option.{slice_get_read}
use Rattle.object_past.specs.declared.removal.Removal.{Removal}
use Rattle.base_types.proofs.Upto.{none_upto}
use Rattle.object_past.proofs.Searching.{in_order, number_found, number_none, unnumbered}
use Rattle.object_past.proofs.past.position_by.Goals as goal

pub returns-then-upto-eq0-clause-removal : goal.returns-then-upto-eq0-clause-removal
returns-then-upto-eq0-clause-removal c =
    let order = in_order (λ (r : Removal). r.range.event) c.args.removals.now c.requires.rising in
    let parted = IsPartitionedBy-leb (λ (r : Removal). r.range.event) c.args.removals.now c.args.event order in
    let parts = IsPartitionPoint-from_clause (λ (r : Removal). leb r.range.event c.args.event) _ _ c.partition_point-upto.ensures.partitioned parted (λ a r q k. search rules) in
    sym (number_none (λ r. r.range.event) c.args.removals.now c.args.event
    (λ r among is. let above = none_upto (λ (r : Removal). r.range.event) c.args.removals.now c.args.event _ parts c.if-upto-eq0.true r among in omega arith))

pub returns-then-removals-upto-clause-removal : goal.returns-then-removals-upto-clause-removal
returns-then-removals-upto-clause-removal c =
    let order = in_order (λ (r : Removal). r.range.event) c.args.removals.now c.requires.rising in
    let parted = IsPartitionedBy-leb (λ (r : Removal). r.range.event) c.args.removals.now c.args.event order in
    let parts = IsPartitionPoint-from_clause (λ (r : Removal). leb r.range.event c.args.event) _ _ c.partition_point-upto.ensures.partitioned parted (λ a r q k. search rules) in
    sym (number_none (λ r. r.range.event) c.args.removals.now c.args.event
    (unnumbered (λ (r : Removal). r.range.event) c.args.removals.now c.args.event _ _ order parts (omega arith) c.partition_point-upto.ensures.bound c.if-removals-upto.true))

pub returns-clause-removal : goal.returns-clause-removal
returns-clause-removal c =
    let bound = c.partition_point-upto.ensures.bound in
    let within : c.partition_point-upto.result - 1 < length c.args.removals.now = omega arith in
    slice_get_read c.args.removals.now (length c.args.removals.now) (c.partition_point-upto.result - 1) c.index-removals-upto.result refl within c.index-removals-upto.is
    ∙ sym (number_found (λ r. r.range.event) c.args.removals.now c.args.event c.index-removals-upto.result c.requires.rising
    (c.partition_point-upto.result - 1, within, sym c.index-removals-upto.is) (ap (λ (r : Removal). r.range.event) c.index-removals-upto.is ∙ c.if-removals-upto.false))
