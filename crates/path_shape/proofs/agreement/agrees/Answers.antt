use Rattle.std.proofs.Common.{◌≡◌, false, IsTrue, List, [], Option, Some, None, refl, subst, ◌∙◌}
use Rattle.std.specs.Prelude.{option_map, option_and_then, is_some, ◌↔◌}
use Rattle.std.specs.Borrow.{Bor}
use Rattle.base_types.specs.Meaning.{Meaning}
use Rattle.path_shape.specs.declared.shape.ShapeEntry.{ShapeEntry}
use Rattle.path_shape.specs.declared.spot.Spot.{Spot}
use Rattle.path_shape.specs.Forms.{left_root}
use Rattle.path_shape.specs.Passing.{past}
use Rattle.path_shape.specs.Walk.{patterns_in, FitsSpot}
use Rattle.path_shape.specs.Beginning.{root_class}
use Rattle.path_shape.proofs.BeginLemmas.{agrees_begun}
use Rattle.path_shape.proofs.agreement.agrees.Goals as goal

there : (o : Option (Bor Meaning)) → is_some o ≡ is_some (option_map (λ t. t.now) o)
there None = refl
there (Some t) = refl

then_now : (o : Option (Bor Meaning)) → option_and_then (λ t. left_root t.now) o ≡ option_and_then left_root (option_map (λ t. t.now) o)
then_now None = refl
then_now (Some t) = refl

pub returns : goal.returns
returns c =
    let spot : Spot = record { had = c.is_some.result; old = c.root_of.result; asked = c.root.result; answered = c.root-2.result } in
    let P = λ (es : List ShapeEntry). IsTrue c.fits_all.result ↔ FitsSpot (root_class false es c.args.shape.now.root) (patterns_in (past false es [])) spot in
    let walked = subst P c.as_slice.ensures c.fits_all.ensures in
    let same = agrees_begun c.args.shape.now spot (option_map (λ t. t.now) c.args.old) c.args.asked.now c.args.answered.now (c.is_some.ensures ∙ there c.args.old) (c.root_of.ensures ∙ then_now c.args.old) c.root.ensures c.root-2.ensures in
    (λ is. same.0 (walked.0 is), λ h. walked.1 (same.1 h))
