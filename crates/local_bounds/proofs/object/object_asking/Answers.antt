use Rattle.std.proofs.Common.{inl, sym, ◌∙◌}
use Rattle.clouds.specs.Clouds as cloud
use Rattle.clouds.specs.FirstPlace.{HoldsNowhere, IsLeastPlace}
use Rattle.history_model.specs.Clouds.{IsClouded}
use Rattle.history_model.specs.States.{state}
use Rattle.local_bounds.specs.Sights.{IsSeen}
use Rattle.local_bounds.proofs.Asks.{asks_same}
use Rattle.local_bounds.proofs.Tests.{some_at, none_at}
use Rattle.local_bounds.proofs.Windows.{other_alone}
use Rattle.local_bounds.proofs.object.object_asking.Goals as goal

pub returns-then-is_some : goal.returns-then-is_some
returns-then-is_some c =
    let w = some_at (IsLeastPlace (cloud.IsClouded c.args.known.clouds.now c.args.key.now) c.args.window.low c.args.window.high) c.meets.result (sym c.is_some.ensures ∙ c.if-is_some.true) c.meets.ensures.some in
    λ h k choice chosen. (w.0, w.1.from_low, w.1.upto_high, inl ((k.clouds c.args.key.now w.0).0 w.1.here))

pub returns : goal.returns
returns c =
    let nowhere = none_at (HoldsNowhere (cloud.IsClouded c.args.known.clouds.now c.args.key.now) c.args.window.low c.args.window.high) c.meets.result (sym c.is_some.ensures ∙ c.if-is_some.false) c.meets.ensures.none in
    λ h k. asks_same h c.args.key.now _ _ c.seen_within.result
    (λ choice chosen. other_alone c.args.window.low c.args.window.high (IsClouded h c.args.key.now) (λ x. IsSeen c.args.sight (state h choice x c.args.key.now))
    (λ x l m d. nowhere x l m ((k.clouds c.args.key.now x).1 d)))
    (c.seen_within.ensures h k.of_past)
