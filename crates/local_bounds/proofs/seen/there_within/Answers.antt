use Rattle.std.proofs.Common.{inl}
use Rattle.std.proofs.lemmas.Bool.{both_ways}
use Rattle.local_bounds.proofs.Asks.{asks_same}
use Rattle.local_bounds.proofs.Windows.{there_is, first_there}
use Rattle.local_bounds.proofs.seen.there_within.Goals as goal

pub returns-then-comes : goal.returns-then-comes
returns-then-comes c = λ h p n comes choice chosen.
    (there_is h choice p.readable chosen c.args.key.now c.args.window.low c.args.window.high c.requires c.args.sight n).0 (inl (comes.0 c.if-comes.true))

pub returns : goal.returns
returns c = λ h p n comes. asks_same h c.args.key.now _ _ c.seen_at.result
    (λ choice chosen. first_there h choice p.readable chosen c.args.key.now c.args.window.low c.args.window.high c.requires c.args.sight n
    (λ s. both_ways _ c.if-comes.false (comes.1 s)))
    (c.seen_at.ensures h p)
