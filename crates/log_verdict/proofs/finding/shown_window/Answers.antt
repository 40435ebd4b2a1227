use Rattle.std.proofs.Common.{◌≡◌, sym, ◌∙◌, rules}
use Rattle.base_types.specs.declared.verdict.claim.Reason.TheVariants.{U14}
use Rattle.log_context.specs.Histories.{history_of}
use Rattle.log_verdict.proofs.FindingShown.{own_window}
use Rattle.log_verdict.proofs.finding.shown_window.Goals as goal

pub returns-clause-low : goal.returns-clause-low
returns-clause-low c = λ e known.
    let h = history_of c.args.context.now in
    let other : c.args.reason ≡ U14 → ⊥ = search rules in
    c.window.ensures.low e known ∙ sym (own_window h e c.args.reason other).low

pub returns-clause-high : goal.returns-clause-high
returns-clause-high c = λ e known.
    let h = history_of c.args.context.now in
    let other : c.args.reason ≡ U14 → ⊥ = search rules in
    c.window.ensures.high e known ∙ sym (own_window h e c.args.reason other).high
