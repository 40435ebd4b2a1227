use Rattle.std.proofs.Common.{arith}
use Rattle.std.proofs.lemmas.Bool.{both_ways}
use Rattle.history_model.specs.States.{state}
use Rattle.local_bounds.specs.Sights.{IsSeen}
use Rattle.local_bounds.proofs.Places.{first_at}
use Rattle.local_bounds.proofs.place.first_by_halves.Goals as goal

pub returns-then-not-is_seen_upto : goal.returns-then-not-is_seen_upto
returns-then-not-is_seen_upto c = λ h p chosen place from upto q. both_ways _ c.if-not-is_seen_upto.true ((c.is_seen_upto.ensures h p chosen).1 (place, from, upto, q))

pub loop-rest-init : goal.loop-rest-init
loop-rest-init c = record {
  within = omega arith;
  narrowed = λ h p chosen. record { seen = (c.is_seen_upto.ensures h p chosen).0 c.if-not-is_seen_upto.false; none = λ x l m q. absurd (omega (arith, l, m)) };
}

pub loop-rest-preserved : goal.loop-rest-preserved
loop-rest-preserved c = record {
  within = omega (arith, c.halved-rest.ensures.within, c.loop-rest.invariant.within);
  narrowed = λ h p chosen. c.halved-rest.ensures.narrowed h p chosen (c.loop-rest.invariant.narrowed h p chosen);
}

pub returns : goal.returns
returns c = λ h p chosen.
    let n = c.loop-rest.invariant.narrowed h p chosen in
    first_at (λ x. IsSeen c.args.sight (state h c.args.choice.now x c.args.key.now)) c.args.window.low c.args.window.high c.loop-rest.rest.low c.loop-rest.rest.high
    c.loop-rest-test.false c.loop-rest.invariant.within n.seen n.none
