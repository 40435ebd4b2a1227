use Rattle.std.proofs.Common.{◌≤◌, All, length, subst, sym, arith}
use Rattle.std.proofs.lemmas.List.{length-map}
use Rattle.std.proofs.lemmas.List.Elements.{All-push}
use Rattle.event_claims.proofs.Logging.{logged}
use Rattle.history_model.specs.Histories.{IsEvent}
use Rattle.log_moments.proofs.Gathering.{AreThingsBefore, all_things, no_things, things_more, things_same}
use Rattle.log_moments.specs.Things.{IsThingOf}
use Rattle.log_moments.specs.Views.{IsFoundThing}
use Rattle.strict_order.specs.declared.thing.Thing.{Thing}
use Rattle.write_groups.specs.Modelled.{event_of}
use Rattle.write_groups.specs.declared.event.LogEvent.{LogEvent}
use Rattle.log_moments.proofs.things.things_in.Goals as goal
use Rattle.log_moments.proofs.things.things_in.Goals.{in-Some+in_ok-push, in_default}

pub loop-number-init : goal.loop-number-init
loop-number-init c = record {
  things = λ h v r. subst (AreThingsBefore h 0) (sym c.new-things.ensures.items) (no_things h);
  numbers = λ h v. subst (All (λ (t : Thing). t.least ≤ t.greatest)) (sym c.new-things.ensures.items) (λ k d within. absurd (omega (arith, within)));
}

pub loop-number-preserved : goal.loop-number-preserved
loop-number-preserved c =
    let log = c.args.view.now.log.now in
    let n = c.loop-number.number in
    let things = c.loop-number.things.items in
    let event = event_of c.event-item.result in
    elim c.match-thing_of.branch [
      | in-Some+in_ok-push w ↦ rw (w.things-is, w.in_ok-push.ensures.items) (record {
        things = λ h v r.
            let known = subst (λ (x : LogEvent). IsEvent h n (event_of x)) (sym c.event-item.is) (logged h log n c.event-item.result v.events c.loop-number-test.true) in
            let is = subst (IsFoundThing (IsThingOf h n event)) w.in-Some.is (c.thing_of.ensures h v) in
            things_more h n event r known things (c.loop-number.invariant.things h v r) w.in-Some.thing is.0;
        numbers = λ h v.
            let is = subst (IsFoundThing (IsThingOf h n event)) w.in-Some.is (c.thing_of.ensures h v) in
            All-push (λ (t : Thing). t.least ≤ t.greatest) things w.in-Some.thing (c.loop-number.invariant.numbers h v) is.1;
      })
      | in_default w ↦ rw w.things-is (record {
        things = λ h v r.
            let known = subst (λ (x : LogEvent). IsEvent h n (event_of x)) (sym c.event-item.is) (logged h log n c.event-item.result v.events c.loop-number-test.true) in
            let none = subst (IsFoundThing (IsThingOf h n event)) w.in_default.is (c.thing_of.ensures h v) in
            things_same h n event r known things (c.loop-number.invariant.things h v r) none;
        numbers = c.loop-number.invariant.numbers;
      })
    ]

pub returns : goal.returns
returns c =
    let log = c.args.view.now.log.now in
    let n = c.loop-number.number in
    record {
      things = λ h v r. all_things h n c.loop-number.things.items (subst (λ l. length l ≤ n) (sym v.events) (omega (arith, length-map log event_of, c.loop-number-test.false))) (c.loop-number.invariant.things h v r);
      numbers = c.loop-number.invariant.numbers;
    }
