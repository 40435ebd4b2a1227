use Rattle.std.proofs.Common.{◌≡◌, ◌+◌, ◌<◌, ◌≤◌, ◌++◌, ◌∷◌, [], length, arith}
use Rattle.std.proofs.lemmas.List.{length_push}
use Rattle.std.proofs.lemmas.List.Elements.{All-push, All-weaker}
use Rattle.std.proofs.lemmas.List.Quantifiers.{all_pairs_push}
use Rattle.audit_event.specs.declared.event.Event.{Event}
use Rattle.audit_event.specs.Events.{IsSound}
use Rattle.log_context.specs.Logged.{last_line}
use Rattle.worked_logs.proofs.reading.events.Goals as goal

pub loop-told-preserved : goal.loop-told-preserved
loop-told-preserved g c =
    let before = c.loop-told.invariant in
    let items = c.loop-told.events in
    let one = c.event-event.result in
    let long = c.len.ensures in
    let again = c.len-in-loop-told.ensures in
    let short = c.if-len-ge100.false in
    let line = c.event-event.ensures.line in
    let its : one.line ≡ length items + 1 = omega (arith, line, again) in
    rw c.push.ensures (
      omega (arith, length_push items one, long, short),
      All-push IsSound items one before.1 c.event-event.ensures.sound,
      All-push (λ (event : Event). 0 < event.line) items one before.2 (omega (arith, its)),
      all_pairs_push (λ (a b : Event). a.line < b.line) items one before.3 (λ k d within. (let below = before.4 k d within in omega (arith, below, its))),
      All-push (λ (event : Event). event.line ≤ length (items ++ one ∷ [])) items one
          (All-weaker (λ (event : Event). event.line ≤ length items) (λ (event : Event). event.line ≤ length (items ++ one ∷ [])) (λ event below. omega (arith, below, length_push items one)) items before.4)
          (omega (arith, its, length_push items one)),
    )

pub returns-clause-lines : goal.returns-clause-lines
returns-clause-lines g c =
    let before = c.loop-told.invariant in
    record {
      numbered = before.2;
      rising = before.3;
      within = All-weaker (λ (event : Event). event.line ≤ length c.loop-told.events) (λ (event : Event). event.line ≤ last_line) (λ event below. omega (arith, below, before.0)) c.loop-told.events before.4;
    }
