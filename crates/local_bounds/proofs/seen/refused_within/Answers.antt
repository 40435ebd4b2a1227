use Rattle.std.proofs.Common.{inl, sym, ap, ◌∙◌, is_some, true≢false}
use Rattle.std.proofs.lemmas.Bool.{both_ways}
use Rattle.write_groups.specs.Modelled.{conditions_of}
use Rattle.local_bounds.proofs.Asks.{asks_same}
use Rattle.local_bounds.proofs.Windows.{refused_is, only_absent}
use Rattle.local_bounds.proofs.seen.refused_within.Goals as goal

pub returns-in_default : goal.returns-in_default
returns-in_default c = λ h p. c.there_within.ensures h p (λ s. true≢false (sym s ∙ ap is_some c.in_default.is)) (c.refused_comes-comes.ensures h p)

pub returns-then-is_refused_within : goal.returns-then-is_refused_within
returns-then-is_refused_within c = λ h p choice chosen.
    (refused_is h choice p.readable chosen c.args.key.now c.args.window.low c.args.window.high c.requires (conditions_of c.args.asked.now) (ap is_some c.in-Some.is)).0
    (inl ((c.is_refused_within.ensures h p).0 c.if-is_refused_within.true))

pub returns : goal.returns
returns c = λ h p. asks_same h c.args.key.now _ _ c.gone_within.result
    (λ choice chosen. only_absent h choice p.readable chosen c.args.key.now c.args.window.low c.args.window.high c.requires (conditions_of c.args.asked.now) (ap is_some c.in-Some.is)
    (λ s. both_ways _ c.if-is_refused_within.false ((c.is_refused_within.ensures h p).1 s)))
    (c.gone_within.ensures h p)
