use Rattle.std.proofs.Common.{◌≡◌, ◌∙◌, ◌∷◌, ◌++◌, Some, None, ap, subst}
use Rattle.std.specs.Vec.Iter.{into_iter_items}
use Rattle.log_intake.proofs.EventFacts.{one_further}
use Rattle.log_sift.specs.Recalling.{Moves}
use Rattle.log_sift.specs.Sift.{KeepsEvent}
use Rattle.log_sift.proofs.KeepingFacts.{moves_push, moves_stopped}
use Rattle.log_sift.proofs.keeping.keep_events.Goals as goal

pub returns-in-Some-2 : goal.returns-in-Some-2
returns-in-Some-2 c =
    let l = c.loop-event.invariant in
    let done = c.loop-event.yielded in
    let event = c.in-Some.event in
    let rest = into_iter_items c.next.new.self in
    let before = c.loop-event.kept.entries in
    let after = c.keep_event.new.kept.entries in
    let whole : c.args.events ≡ done ++ event ∷ rest = l.all ∙ ap (λ more. done ++ more) c.in-Some.ensures.steps.0 in
    let last : Moves before after (λ kept. KeepsEvent kept event) (Some c.in-Some-2.cause) = subst (Moves before after (λ kept. KeepsEvent kept event)) c.in-Some-2.is c.in_ok-cause.ensures in
    moves_stopped c.args.kept.now.entries before after done rest c.args.events event c.in-Some-2.cause l.moves last whole

pub loop-event-preserved : goal.loop-event-preserved
loop-event-preserved c =
    let l = c.loop-event.invariant in
    let done = c.loop-event.yielded in
    let event = c.in-Some.event in
    let before = c.loop-event.kept.entries in
    let after = c.keep_event.new.kept.entries in
    let last : Moves before after (λ kept. KeepsEvent kept event) None = subst (Moves before after (λ kept. KeepsEvent kept event)) c.in-None-2.is c.in_ok-cause.ensures in
    record {
      all = one_further c.args.events done (into_iter_items c.loop-event.event-iterator) (into_iter_items c.next.new.self) event l.all c.in-Some.ensures.steps.0;
      moves = moves_push c.args.kept.now.entries before after done event l.moves last;
    }
