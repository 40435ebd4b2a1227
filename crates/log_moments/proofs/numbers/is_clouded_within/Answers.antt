use Rattle.event_claims.proofs.Clouding.{clouded_within}
use Rattle.log_moments.proofs.numbers.is_clouded_within.Goals as goal

pub returns : goal.returns
returns c = λ h clouds. clouded_within c.args.clouds.now c.args.key.now c.args.window.low c.args.window.high c.meets.result _ c.meets.ensures.some c.meets.ensures.none c.is_some.ensures h clouds.clouded
