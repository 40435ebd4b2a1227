use Rattle.std.proofs.lemmas.Bool.{both_ways}
use Rattle.history_model.specs.States.{state}
use Rattle.local_bounds.specs.Sights.{IsSeen}
use Rattle.local_bounds.proofs.Places.{below_middle}
use Rattle.local_bounds.proofs.place.halved.Goals as goal

pub returns-then-is_seen_upto-clause-narrowed : goal.returns-then-is_seen_upto-clause-narrowed
returns-then-is_seen_upto-clause-narrowed c = λ h p chosen n. record { seen = (c.is_seen_upto.ensures h p chosen).0 c.if-is_seen_upto.true; none = n.none }

pub returns-clause-narrowed : goal.returns-clause-narrowed
returns-clause-narrowed c = λ h p chosen n. record {
  seen = n.seen;
  none = below_middle (λ x. IsSeen c.args.sight (state h c.args.choice.now x c.args.key.now)) c.args.first _ (λ s. both_ways _ c.if-is_seen_upto.false ((c.is_seen_upto.ensures h p chosen).1 s));
}
