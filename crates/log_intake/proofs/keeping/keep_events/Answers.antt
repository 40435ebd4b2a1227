use Rattle.std.proofs.Common.{◌∙◌, ◌∷◌, ◌++◌, [], ap, arith, length-append, sym}
use Rattle.std.specs.Vec.Iter.{into_iter_items}
use Rattle.log_intake.proofs.EventFacts.{events_step, events_stopped, one_further}
use Rattle.log_intake.proofs.StepAnswers.{events_keep}
use Rattle.log_intake.proofs.keeping.keep_events.Goals as goal

pub returns-in-Err : goal.returns-in-Err
returns-in-Err c =
    let l = c.loop-event.invariant in
    record {
      takes = tt;
      before = tt;
      refused = λ refusal. events_stopped c.args.first c.loop-event.number c.args.seen.now c.loop-event.seen c.loop-event.yielded (into_iter_items c.next.new.self) c.args.events c.in-Some.event _ l.number l.takes
          (l.all ∙ ap (λ rest. c.loop-event.yielded ++ rest) c.in-Some.ensures.steps.0) (c.in-Err.ensures.refused refusal);
      no_fault = c.in-Err.ensures.no_fault;
    }

pub loop-event-preserved : goal.loop-event-preserved
loop-event-preserved c =
    let l = c.loop-event.invariant in
    let number = l.number in
    record {
      all = one_further c.args.events c.loop-event.yielded (into_iter_items c.loop-event.event-iterator) (into_iter_items c.next.new.self) c.in-Some.event l.all c.in-Some.ensures.steps.0;
      number = (let long = length-append c.loop-event.yielded (c.in-Some.event ∷ []) in omega (arith, number, long));
      takes = events_step c.args.first c.loop-event.number c.args.seen.now c.loop-event.seen c.keep_event.new.seen c.loop-event.yielded c.in-Some.event l.number l.takes c.in_default.ensures.takes;
      before = c.in_default.ensures.before;
    }

pub returns : goal.returns
returns c =
    let l = c.loop-event.invariant in
    events_keep _ c.args.first c.loop-event.number c.args.seen.now c.loop-event.seen c.args.events c.loop-event.yielded (into_iter_items c.loop-event.event-iterator) l.all
    (sym c.loop-event.event-iterator.rest.ok.0 ∙ c.in-None.ensures.steps.0) l.number l.takes l.before
