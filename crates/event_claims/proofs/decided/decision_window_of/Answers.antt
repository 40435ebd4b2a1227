use Rattle.std.proofs.Common.{ap, sym, ◌∙◌, pos, ◌-ℤ◌}
use Rattle.history_model.specs.Windows.{lowest}
use Rattle.write_groups.specs.Modelled.{event_of}
use Rattle.event_claims.proofs.decided.decision_window_of.Goals as goal

pub returns-clause-low : goal.returns-clause-low
returns-clause-low g c = λ h number v known.
    c.lowest.ensures h v.times
    ∙ ap (λ at. lowest h at) (c.earlier.ensures (v.moments number (event_of c.args.event.now) known) ∙ ap (λ n. c.args.event.now.lo.0 -ℤ pos n) (sym v.lag))
