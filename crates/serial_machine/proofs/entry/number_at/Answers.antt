use Rattle.std.proofs.Common.{◌≡◌, ◌-◌, ◌<◌, length, leb, arith, rules, refl, sym, ap, ◌∙◌}
use Rattle.std.proofs.lemmas.List.Sorted.{IsPartitionPoint-from_clause, IsPartitionedBy-leb}
use Rattle.std.proofs.lemmas.Option.{slice_get_read, same_Some}
use Rattle.base_types.proofs.Upto.{none_upto}
use Rattle.object_past.proofs.Searching.{in_order, unnumbered}
use Rattle.write_groups.specs.declared.event.LogEvent.{LogEvent}
use Rattle.serial_machine.proofs.entry.number_at.Goals as goal

pub returns-then-upto-eq0-clause-none : goal.returns-then-upto-eq0-clause-none
returns-then-upto-eq0-clause-none c = λ event among is.
    let order = in_order (λ (e : LogEvent). e.line) c.args.log.now c.requires.rising in
    let parted = IsPartitionedBy-leb (λ (e : LogEvent). e.line) c.args.log.now c.args.line order in
    let parts = IsPartitionPoint-from_clause (λ (e : LogEvent). leb e.line c.args.line) _ _ c.partition_point-upto.ensures.partitioned parted (λ a r q k. search rules) in
    let above = none_upto (λ (e : LogEvent). e.line) c.args.log.now c.args.line _ parts c.if-upto-eq0.true event among in omega arith

pub returns-then-log-upto-clause-none : goal.returns-then-log-upto-clause-none
returns-then-log-upto-clause-none c =
    let order = in_order (λ (e : LogEvent). e.line) c.args.log.now c.requires.rising in
    let parted = IsPartitionedBy-leb (λ (e : LogEvent). e.line) c.args.log.now c.args.line order in
    let parts = IsPartitionPoint-from_clause (λ (e : LogEvent). leb e.line c.args.line) _ _ c.partition_point-upto.ensures.partitioned parted (λ a r q k. search rules) in
    unnumbered (λ (e : LogEvent). e.line) c.args.log.now c.args.line _ _ order parts (omega arith) c.partition_point-upto.ensures.bound c.if-log-upto.true

pub returns-clause-some : goal.returns-clause-some
returns-clause-some c = λ event at.
    let bound = c.partition_point-upto.ensures.bound in
    let within : c.partition_point-upto.result - 1 < length c.args.log.now = omega arith in
    let read = slice_get_read c.args.log.now (length c.args.log.now) (c.partition_point-upto.result - 1) c.index-log-upto.result refl within c.index-log-upto.is in
    let same : c.index-log-upto.result ≡ event = same_Some c.index-log-upto.result event (sym read ∙ at) in
    ap (λ (e : LogEvent). e.line) (sym same) ∙ ap (λ (e : LogEvent). e.line) c.index-log-upto.is ∙ c.if-log-upto.false
