use Rattle.std.specs.Prelude.{option_map}
use Rattle.std.proofs.lemmas.Bool.Decides.{same_from_decides}
use Rattle.request_bodies.specs.Agreeing.{does_agree}
use Rattle.request_bodies.proofs.Tested.{agree-Decides}
use Rattle.request_bodies.proofs.agreeing.does_agree.Goals as goal

pub returns : goal.returns
returns c =
    let shape = c.args.shape.now in
    let old = option_map (λ tree. tree.now) c.args.old in
    same_from_decides c.agrees.result (does_agree shape old c.args.asked.now c.args.answered.now) c.agrees.ensures (agree-Decides shape old c.args.asked.now c.args.answered.now)
