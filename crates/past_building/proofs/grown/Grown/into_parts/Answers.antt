use Rattle.std.proofs.Common.{◌<◌, AllPairs, subst}
use Rattle.object_past.specs.declared.version.Version.{Version}
use Rattle.past_building.proofs.grown.Grown.into_parts.Goals as goal

pub returns-clause-rising : goal.returns-clause-rising
returns-clause-rising c = subst (AllPairs (λ (a b : Version). a.revision < b.revision)) c.self.view_is c.self.invariant.rising
