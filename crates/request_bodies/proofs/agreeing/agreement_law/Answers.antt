use Rattle.request_bodies.proofs.Tested.{agree-Decides, keep-Decides}
use Rattle.request_bodies.proofs.agreeing.agreement_law.Goals as goal

pub returns-clause-agrees : goal.returns-clause-agrees
returns-clause-agrees c = agree-Decides

pub returns-clause-keeps : goal.returns-clause-keeps
returns-clause-keeps c = keep-Decides
