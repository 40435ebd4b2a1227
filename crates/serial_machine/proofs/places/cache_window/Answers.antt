use Rattle.std.proofs.Common.{◌≡◌, ℕ, ◌∙◌, ap, pos, ◌-ℤ◌}
use Rattle.history_model.specs.Windows.{decision_high, decision_low, lowest}
use Rattle.serial_machine.proofs.Knowing.{has_times, item_event, same_item}
use Rattle.serial_machine.proofs.places.cache_window.Goals as goal
use Rattle.log_context.specs.Histories.{history_of}
use Rattle.write_groups.specs.Modelled.{event_of}

pub before-requires : goal.before-requires
before-requires c = c.log.ensures.moments c.args.number (event_of c.index-log-number.result)
    (item_event c.args.context.now c.log.result.now c.log.ensures.log c.args.number c.requires c.index-log-number.result c.index-log-number.is)

pub returns-clause-low : goal.returns-clause-low
returns-clause-low c = λ event there.
    let known = c.args.context.now in
    let h = history_of known in
    let lag : c.setup.result.now.lag ≡ known.setup.lag = cc (c.setup.ensures.setup) in
    c.lowest.ensures h (has_times known c.windows-windows.result.now c.windows-windows.ensures.start c.windows-windows.ensures.spans)
    ∙ ap (lowest h) (c.before-2.ensures ∙ ap (λ (n : ℕ). c.index-log-number.result.lo.0 -ℤ pos n) lag)
    ∙ ap (decision_low h) (same_item known c.log.result.now c.log.ensures.log c.args.number c.requires c.index-log-number.result c.index-log-number.is event there)

pub returns-clause-high : goal.returns-clause-high
returns-clause-high c = λ event there.
    let known = c.args.context.now in
    let h = history_of known in
    c.highest.ensures h (has_times known c.windows-windows.result.now c.windows-windows.ensures.start c.windows-windows.ensures.spans)
    ∙ ap (decision_high h) (same_item known c.log.result.now c.log.ensures.log c.args.number c.requires c.index-log-number.result c.index-log-number.is event there)
