use Rattle.std.proofs.Common.{inl}
use Rattle.std.proofs.lemmas.Bool.{both_ways}
use Rattle.history_model.proofs.LocalBounds.{absent_is}
use Rattle.local_bounds.proofs.Asks.{asks_same}
use Rattle.local_bounds.proofs.Windows.{last_absent}
use Rattle.local_bounds.proofs.seen.gone_within.Goals as goal

pub returns-then-is_absent_within : goal.returns-then-is_absent_within
returns-then-is_absent_within c = λ h p choice chosen.
    (absent_is h choice p.readable chosen c.args.key.now c.args.window.low c.args.window.high c.requires).1 (inl ((c.is_absent_within.ensures h p.recorded).0 c.if-is_absent_within.true))

pub returns : goal.returns
returns c = λ h p. asks_same h c.args.key.now _ _ c.seen_at.result
    (λ choice chosen. last_absent h choice p.readable chosen c.args.key.now c.args.window.low c.args.window.high c.requires
    (λ s. both_ways _ c.if-is_absent_within.false ((c.is_absent_within.ensures h p.recorded).1 s)))
    (c.seen_at.ensures h p)
