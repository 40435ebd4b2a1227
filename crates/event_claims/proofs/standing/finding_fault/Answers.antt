use Rattle.std.proofs.Common.{subst}
use Rattle.history_model.specs.Words.{word}
use Rattle.write_groups.specs.Modelled.{event_of}
use Rattle.event_claims.specs.Words.{IsSaid}
use Rattle.event_claims.proofs.Faulting.{hidden_found, shown_found}
use Rattle.event_claims.proofs.standing.finding_fault.Goals as goal

pub returns-then-is_hidden : goal.returns-then-is_hidden
returns-then-is_hidden c = λ h number k w f said.
    hidden_found h number (event_of c.args.event.now) c.args.window.low c.args.window.high w.from w.to c.is_hidden.result (λ item created e. c.is_hidden.ensures h item created k e) c.if-is_hidden.true

pub returns : goal.returns
returns c = λ h number k w f said.
    shown_found h number (event_of c.args.event.now) c.args.window.low c.args.window.high w.from w.to c.is_hidden.result (λ item created e. c.is_hidden.ensures h item created k e) c.if-is_hidden.false
    c.args.fault (subst (λ x. IsSaid h (word h number (event_of c.args.event.now)) x) c.in-At.is said) f
