use Rattle.std.proofs.Common.{refl, sym, subst}
use Rattle.setup_file.specs.Reading.{IsTreeOf}
use Rattle.cluster_setup.proofs.making.read_file.Goals as goal

pub returns-in-None-clause-cause : goal.returns-in-None-clause-cause
returns-in-None-clause-cause c =
    let none = rw c.in-None.is at c.in-Ok.ensures.none in
    (refl, λ tree own. none tree (subst (λ b. IsTreeOf b tree) (sym c.as_slice.ensures) own))
