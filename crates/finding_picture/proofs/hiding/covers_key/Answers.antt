use Rattle.std.proofs.lemmas.Bool.Decides.{same_from_decides}
use Rattle.rbac_timeline.specs.Hidden.{covers}
use Rattle.rbac_timeline.proofs.Hiding.{covers-Decides}
use Rattle.finding_picture.proofs.hiding.covers_key.Goals as goal

pub returns : goal.returns
returns c =
    let told = c.covers.ensures in
    same_from_decides c.covers.result (covers c.args.cover.now c.args.key.now) (told.0, told.1) (covers-Decides c.args.cover.now c.args.key.now)
