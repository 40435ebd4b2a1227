use Rattle.std.proofs.Common.{sym, subst}
use Rattle.std.proofs.lemmas.Result.{IfOk-weaker}
use Rattle.object_past.specs.Faulted.{IsLeastFoundFault}
use Rattle.past_building.proofs.Telling.{found_is_least}
use Rattle.past_building.specs.Modelled.{making_of}
use Rattle.past_building.proofs.making.finding_fault.Goals as goal

pub returns : goal.returns
returns g c =
    let m = making_of c.args.making in
    IfOk-weaker c.found_fault.result _ _
    (λ found is h bodies. subst (IsLeastFoundFault h m) (sym is) (found_is_least h (g.B.Bodies.body c.args.bodies.now) m bodies))
    c.found_fault.ensures
