use Rattle.request_bodies.proofs.RightLemmas.{body-Decides}
use Rattle.request_bodies.proofs.right.body_law.Goals as goal

pub returns : goal.returns
returns c = body-Decides
