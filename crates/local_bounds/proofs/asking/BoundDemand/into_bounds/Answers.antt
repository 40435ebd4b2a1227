use Rattle.local_bounds.proofs.Holding.{exact_as}
use Rattle.local_bounds.proofs.asking.BoundDemand.into_bounds.Goals as goal

pub returns-clause-exact : goal.returns-clause-exact
returns-clause-exact c = λ h number event r a. exact_as h number event c.args.self c.bounds_of.result c.bounds_of.ensures r a
