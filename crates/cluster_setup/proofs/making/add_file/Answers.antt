use Rattle.std.proofs.Common.{◌≡◌, ℕ, ◌+◌, [], ◌∷◌}
use Rattle.std.proofs.lemmas.List.Elements.{All-nil, All-cons, All-append}
use Rattle.base_types.specs.Meaning.{Meaning}
use Rattle.base_types.specs.Values.{InRange}
use Rattle.setup_file.specs.Reading.{IsTreeOf}
use Rattle.cluster_setup.specs.declared.fault.FileFault.TheVariants.{Json}
use Rattle.cluster_setup.specs.declared.fault.SetupRefusal.TheVariants.{File}
use Rattle.cluster_setup.specs.Refusing.{IsFirstBroken}
use Rattle.cluster_setup.proofs.Causes.{weaker}
use Rattle.cluster_setup.proofs.Zips.{zip_more, first_broken}
use Rattle.cluster_setup.proofs.making.add_file.Goals as goal

pub returns-in_ok-push-in-Ok-clause-read : goal.returns-in_ok-push-in-Ok-clause-read
returns-in_ok-push-in-Ok-clause-read c =
    rw c.in_ok-push-in-Ok.ensures.items
    (zip_more IsTreeOf c.args.files.now c.args.trees.now.items c.args.number c.index-files-number.result c.in-Ok.tree c.requires.within c.index-files-number.is c.requires.read c.in-Ok.ensures.read)

pub returns-in_ok-push-in-Ok-clause-range : goal.returns-in_ok-push-in-Ok-clause-range
returns-in_ok-push-in-Ok-clause-range c =
    rw c.in_ok-push-in-Ok.ensures.items
    (All-append InRange c.args.trees.now.items (c.in-Ok.tree ∷ []) c.requires.range (All-cons InRange c.in-Ok.tree [] c.in-Ok.ensures.range (All-nil InRange)))

pub returns-in-Err-clause-cause : goal.returns-in-Err-clause-cause
returns-in-Err-clause-cause c =
    weaker (λ refusal. (at : ℕ) × IsFirstBroken c.args.files.now at × (refusal ≡ File at Json))
    (λ refusal. (refusal ≡ File (c.args.number + 1) Json) × ((tree : Meaning) → IsTreeOf c.index-files-number.result tree → ⊥))
    (λ refusal broken.
    (c.args.number + 1, first_broken c.args.files.now c.args.number c.index-files-number.result c.args.trees.now.items c.requires.within c.index-files-number.is c.requires.read broken.1, broken.0))
    c.in-Err.refusal c.in-Err.ensures.cause
