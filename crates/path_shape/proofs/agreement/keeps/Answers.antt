use Rattle.std.proofs.Common.{true, IsTrue, List, [], refl, subst}
use Rattle.std.specs.Prelude.{◌↔◌}
use Rattle.path_shape.specs.declared.shape.ShapeEntry.{ShapeEntry}
use Rattle.path_shape.specs.declared.spot.Spot.{Spot}
use Rattle.path_shape.specs.Beginning.{root_class}
use Rattle.path_shape.specs.Passing.{past}
use Rattle.path_shape.specs.Walk.{patterns_in, FitsSpot}
use Rattle.path_shape.proofs.BeginLemmas.{keeps_begun}
use Rattle.path_shape.proofs.agreement.keeps.Goals as goal

pub returns : goal.returns
returns c =
    let spot : Spot = record { had = true; old = c.root.result; asked = c.root-2.result; answered = c.root-3.result } in
    let P = λ (es : List ShapeEntry). IsTrue c.fits_all.result ↔ FitsSpot (root_class true es c.args.shape.now.root) (patterns_in (past true es [])) spot in
    let walked = subst P c.as_slice.ensures c.fits_all.ensures in
    let same = keeps_begun c.args.shape.now spot c.args.old.now c.args.answered.now refl c.root.ensures c.root-2.ensures c.root-3.ensures in
    (λ is. same.0 (walked.0 is), λ h. walked.1 (same.1 h))
