use Rattle.std.proofs.Common.{sym, ◌∙◌}
use Rattle.clouds.specs.Clouds as cloud
use Rattle.history_model.specs.Clouds.{IsClouded}
use Rattle.history_model.specs.States.{state}
use Rattle.local_bounds.specs.Sights.{IsSeen}
use Rattle.local_bounds.proofs.Places.{other_first, before_cloud, at_cloud, clouds_same}
use Rattle.local_bounds.proofs.place.object_place.Goals as goal

pub returns-in_default : goal.returns-in_default
returns-in_default c = λ h k chosen. other_first (IsClouded h c.args.key.now) (λ x. IsSeen c.args.sight (state h c.args.choice.now x c.args.key.now)) c.args.window.low c.args.window.high c.first_seen.result
    (λ x l m d. c.in_default.ensures.none x l m ((k.clouds c.args.key.now x).1 d)) (c.first_seen.ensures h k.of_past chosen)

pub returns-then-is_some : goal.returns-then-is_some
returns-then-is_some c = λ h k chosen. before_cloud (IsClouded h c.args.key.now) (λ x. IsSeen c.args.sight (state h c.args.choice.now x c.args.key.now)) c.args.window.low c.args.window.high c.in-Some.clouded c.first_seen-seen.result
    (sym c.is_some.ensures ∙ c.if-is_some.true)
    (clouds_same (cloud.IsClouded c.args.known.clouds.now c.args.key.now) (IsClouded h c.args.key.now) c.args.window.low c.args.window.high c.in-Some.clouded (λ x. k.clouds c.args.key.now x) c.in-Some.ensures.some)
    (c.first_seen-seen.ensures h k.of_past chosen)

pub returns : goal.returns
returns c = λ h k chosen. at_cloud (IsClouded h c.args.key.now) (λ x. IsSeen c.args.sight (state h c.args.choice.now x c.args.key.now)) c.args.window.low c.args.window.high c.in-Some.clouded c.first_seen-seen.result
    (sym c.is_some.ensures ∙ c.if-is_some.false)
    (clouds_same (cloud.IsClouded c.args.known.clouds.now c.args.key.now) (IsClouded h c.args.key.now) c.args.window.low c.args.window.high c.in-Some.clouded (λ x. k.clouds c.args.key.now x) c.in-Some.ensures.some)
    (c.first_seen-seen.ensures h k.of_past chosen)
