use Rattle.std.proofs.Common.{◌≢◌, ◌-◌, get_or, leb, arith, rules, sym, ap, ◌∙◌}
use Rattle.std.proofs.lemmas.List.Sorted.{IsPartitionPoint-from_clause, IsPartitionedBy-leb}
use Rattle.base_types.proofs.Upto.{none_upto}
use Rattle.object_past.proofs.Searching.{in_order, number_found, number_none, unnumbered}
use Rattle.audit_event.specs.declared.event.Event.{Event}
use Rattle.finding_picture.proofs.looking.event_among.Goals as goal

pub returns-then-upto-eq0 : goal.returns-then-upto-eq0
returns-then-upto-eq0 c =
    let order = in_order (λ (e : Event). e.line) c.args.events.now c.requires in
    let parted = IsPartitionedBy-leb (λ (e : Event). e.line) c.args.events.now c.args.line order in
    let parts = IsPartitionPoint-from_clause (λ (e : Event). leb e.line c.args.line) _ _ c.partition_point-upto.ensures.partitioned parted (λ a r q k. search rules) in
    sym (number_none (λ (e : Event). e.line) c.args.events.now c.args.line
    (λ g among is. let above = none_upto (λ (e : Event). e.line) c.args.events.now c.args.line _ parts c.if-upto-eq0.true g among in omega arith))

pub returns-then-event-line : goal.returns-then-event-line
returns-then-event-line c =
    let order = in_order (λ (e : Event). e.line) c.args.events.now c.requires in
    let parted = IsPartitionedBy-leb (λ (e : Event). e.line) c.args.events.now c.args.line order in
    let parts = IsPartitionPoint-from_clause (λ (e : Event). leb e.line c.args.line) _ _ c.partition_point-upto.ensures.partitioned parted (λ a r q k. search rules) in
    let here : (get_or c.args.events.now (c.partition_point-upto.result - 1) c.index-events-upto.result).line ≢ c.args.line =
    λ is. c.if-event-line.true (ap (λ (e : Event). e.line) c.index-events-upto.is ∙ is) in
    sym (number_none (λ (e : Event). e.line) c.args.events.now c.args.line
    (unnumbered (λ (e : Event). e.line) c.args.events.now c.args.line _ _ order parts (omega arith) c.partition_point-upto.ensures.bound here))

pub returns : goal.returns
returns c =
    let bound = c.partition_point-upto.ensures.bound in
    sym (number_found (λ (e : Event). e.line) c.args.events.now c.args.line c.index-events-upto.result c.requires
    (c.partition_point-upto.result - 1, omega arith, sym c.index-events-upto.is) c.if-event-line.false)
