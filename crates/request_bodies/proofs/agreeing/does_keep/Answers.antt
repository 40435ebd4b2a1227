use Rattle.std.proofs.lemmas.Bool.Decides.{same_from_decides}
use Rattle.request_bodies.specs.Agreeing.{does_keep}
use Rattle.request_bodies.proofs.Tested.{keep-Decides}
use Rattle.request_bodies.proofs.agreeing.does_keep.Goals as goal

pub returns : goal.returns
returns c =
    same_from_decides c.keeps.result (does_keep c.args.shape.now c.args.old.now c.args.answered.now) c.keeps.ensures
    (keep-Decides c.args.shape.now c.args.old.now c.args.answered.now)
