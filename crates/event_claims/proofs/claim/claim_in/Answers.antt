use Rattle.std.proofs.Common.{sym, subst}
use Rattle.history_model.specs.Exact.{AreExactBounds}
use Rattle.local_bounds.specs.Asked.{AreDeciding}
use Rattle.local_bounds.specs.Known.{IsWindowOf}
use Rattle.write_groups.specs.Modelled.{event_of}
use Rattle.event_claims.proofs.Answering.{bounds_exact, bounds_decide}
use Rattle.event_claims.proofs.claim.claim_in.Goals as goal

pub returns-clause-exact : goal.returns-clause-exact
returns-clause-exact g c = λ h v known.
    let e = event_of c.args.case.event.now in
    let window : IsWindowOf h e c.window_of-window.result = record { from = c.window_of-window.ensures.low h v.times; to = c.window_of-window.ensures.high h v.times } in
    let said = c.word_of-word.ensures h v.start v.past in
    let a = c.in_ok-asking.ensures h v known said window in
    record {
      failure = c.failure_of-fails.ensures h v known said window a;
      exact = subst (λ bounds. AreExactBounds h c.args.case.number e bounds) (sym c.into_bounds.ensures.value) (bounds_exact h v.readable c.args.case.number e c.in_ok-asking.asking a);
      of_answer = c.reason_of-reason.ensures;
    }

pub returns-clause-deciding : goal.returns-clause-deciding
returns-clause-deciding g c = λ h v known.
    let e = event_of c.args.case.event.now in
    let window : IsWindowOf h e c.window_of-window.result = record { from = c.window_of-window.ensures.low h v.times; to = c.window_of-window.ensures.high h v.times } in
    let said = c.word_of-word.ensures h v.start v.past in
    let a = c.in_ok-asking.ensures h v known said window in
    subst (AreDeciding h) (sym c.into_bounds.ensures.value) (bounds_decide h v.readable c.args.case.number e c.in_ok-asking.asking a)
