use Rattle.std.proofs.Common.{◌∷◌, [], ◌++◌, ◌∙◌, ap, refl, sym, subst, take}
use Rattle.std.proofs.lemmas.List.{take_all, take_more}
use Rattle.object_past.specs.declared.version.Version.{Version}
use Rattle.log_context.specs.Uses.{AreUses}
use Rattle.log_context.proofs.Using.{none_used}
use Rattle.log_context.proofs.uses.uses_of.Goals as goal

pub loop-version-init : goal.loop-version-init
loop-version-init c = none_used c.new-uses.result (λ uid. rw c.new-uses.ensures.empty refl)

pub loop-version-preserved : goal.loop-version-preserved
loop-version-preserved c =
    let longer = take_more c.args.versions.now c.loop-version.version-index c.version-item.result c.loop-version-test.true ∙ ap (λ (v : Version). take c.loop-version.version-index c.args.versions.now ++ v ∷ []) (sym c.version-item.is) in
    subst (λ l. AreUses l c.add_use.new.uses) (sym longer) (c.in_ok-add_use.ensures _ c.loop-version.invariant)

pub returns : goal.returns
returns c = subst (λ l. AreUses l c.loop-version.uses) (take_all c.loop-version.version-index c.args.versions.now c.loop-version-test.false) c.loop-version.invariant
