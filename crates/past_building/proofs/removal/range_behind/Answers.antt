use Rattle.std.proofs.Common.{◌≡◌, ◌+◌, max, min, ap, ap₂, refl, sym, ◌∙◌, arith}
use Rattle.history_model.specs.Incarnations.{place_before}
use Rattle.history_model.specs.Windows.{lowest, highest}
use Rattle.past_building.proofs.Removing.{behind_is, behind_none, kept_first, kept_none, kept_there}
use Rattle.past_building.proofs.removal.range_behind.Goals as goal

pub returns-in_err-number-clause-none : goal.returns-in_err-number-clause-none
returns-in_err-number-clause-none c = rw c.from_residual.ensures (λ h removal log first behind.
    kept_none c.args.windows.now c.args.events.now c.args.removed.now h c.args.version.now c.args.next removal log (sym c.in_err-number.ensures) behind)

pub returns-in_err-event-clause-none : goal.returns-in_err-event-clause-none
returns-in_err-event-clause-none c = rw c.from_residual-in_err-event.ensures (λ h removal log first behind.
    kept_there c.args.windows.now c.args.events.now c.args.removed.now h c.args.version.now c.in_ok-number.number log (sym c.in_ok-number.ensures) (sym c.in_err-event.ensures))

pub returns-then-high-before-clause-none : goal.returns-then-high-before-clause-none
returns-then-high-before-clause-none c = λ h removal log first behind.
    let known = kept_first c.args.windows.now c.args.events.now c.args.removed.now h c.args.version.now c.in_ok-number.number c.in_ok-event.event.now log (sym c.in_ok-number.ensures) (sym c.in_ok-event.ensures) in
    let high : c.min-high.result ≡ min (highest h c.in_ok-event.event.now.hi.0) (place_before c.args.next) = c.min-high.ensures ∙ ap₂ min (c.highest.ensures h log.times) c.place_before.ensures in
    let low : c.max-before.result ≡ max (lowest h c.in_ok-event.event.now.lo.0) c.args.version.now.revision = c.max-before.ensures ∙ ap₂ max (c.lowest.ensures h log.times) c.get.ensures.value in
    behind_none h c.args.events.now c.args.version.now c.args.next c.in_ok-number.number c.in_ok-event.event.now removal known.1
    (let short = c.if-high-before.true in omega arith) behind

pub returns-clause-some : goal.returns-clause-some
returns-clause-some c = λ h log first.
    let known = kept_first c.args.windows.now c.args.events.now c.args.removed.now h c.args.version.now c.in_ok-number.number c.in_ok-event.event.now log (sym c.in_ok-number.ensures) (sym c.in_ok-event.ensures) in
    behind_is h c.args.events.now c.args.version.now c.args.next c.in_ok-number.number c.in_ok-event.event.now _ (first.0 c.if-not-is_first.false) known.0 refl
    (ap (λ n. n + 1) (c.max-before.ensures ∙ ap₂ max (c.lowest.ensures h log.times) c.get.ensures.value))
    (c.min-high.ensures ∙ ap₂ min (c.highest.ensures h log.times) c.place_before.ensures)
    (omega (arith, c.if-high-before.false))
