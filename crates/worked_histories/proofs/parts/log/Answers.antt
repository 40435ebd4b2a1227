use Rattle.std.proofs.Common.{◌≡◌, ◌+◌, ◌<◌, arith}
use Rattle.std.proofs.lemmas.List.{length_push}
use Rattle.std.proofs.lemmas.List.Elements.{All-push, All-weaker}
use Rattle.std.proofs.lemmas.List.Quantifiers.{all_pairs_push}
use Rattle.write_groups.specs.declared.event.LogEvent.{LogEvent}
use Rattle.worked_histories.proofs.parts.log.Goals as goal

pub loop-line-preserved : goal.loop-line-preserved
loop-line-preserved g c =
    let before = c.loop-line.invariant in
    let line = c.loop-line.line in
    let items = c.loop-line.events.items in
    let one = c.event-event.result in
    let its : one.line ≡ line = c.event-event.ensures in
    rw c.push.ensures (
      omega (arith, length_push items one, before.0),
      all_pairs_push (λ (a b : LogEvent). a.line < b.line) items one before.1 (λ k d within. (let below = before.2 k d within in omega (arith, below, its))),
      All-push (λ (event : LogEvent). event.line < line + 1) items one (All-weaker (λ (event : LogEvent). event.line < line) (λ (event : LogEvent). event.line < line + 1) (λ event below. omega (arith, below)) items before.2) (omega (arith, its)),
    )
