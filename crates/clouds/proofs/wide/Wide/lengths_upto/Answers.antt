use Rattle.std.proofs.Common.{◌≡◌, ap, subst, sym}
use Rattle.clouds.specs.Items.{items_of}
use Rattle.clouds.specs.Upto.{AreUpto}
use Rattle.clouds.specs.Wide.{lengths_of}
use Rattle.clouds.proofs.wide.Wide.lengths_upto.Goals as goal

pub returns-in-Some : goal.returns-in-Some
returns-in-Some c =
    let held : lengths_of c.args.self.now c.args.scope ≡ c.in-Some.lengths.now = ap items_of (sym c.in-Some.ensures.value) in
    subst (λ lengths. AreUpto lengths c.args.most c.upto.result.now) (sym held) c.upto.ensures
