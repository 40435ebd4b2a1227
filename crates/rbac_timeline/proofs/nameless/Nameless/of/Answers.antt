use Rattle.std.proofs.Common.{◌∷◌, [], ◌++◌, ◌∙◌, ap, sym, subst, take}
use Rattle.std.proofs.lemmas.List.{take_more}
use Rattle.clouds.specs.declared.span.OpaqueSpan.{OpaqueSpan}
use Rattle.rbac_timeline.specs.Nameless.{AreLows}
use Rattle.rbac_timeline.proofs.nameless.Nameless.of.Goals as goal

pub loop-span-preserved : goal.loop-span-preserved
loop-span-preserved c =
    let longer = take_more c.args.spans.now c.loop-span.span-index c.span-item.result c.loop-span-test.true ∙ ap (λ (s : OpaqueSpan). take c.loop-span.span-index c.args.spans.now ++ s ∷ []) (sym c.span-item.is) in
    subst (λ l. AreLows c.add.new.self l) (sym longer) (c.in_ok-add.ensures _ c.loop-span.invariant)
