use Rattle.event_claims.proofs.Clouding.{clouded_within}
use Rattle.event_claims.proofs.standing.is_clouded_within.Goals as goal

pub returns : goal.returns
returns c = clouded_within c.args.clouds.now c.args.key.now c.args.low c.args.high c.meets.result c.is_some.result c.meets.ensures.some c.meets.ensures.none c.is_some.ensures
