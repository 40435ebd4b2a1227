use Rattle.std.proofs.Common.{◌≡◌, ◌∙◌, ◌+◌, ◌∷◌, [], Err, ap, subst, sym, take}
use Rattle.log_context.specs.LogTrees.{object_trees}
use Rattle.log_context.specs.Shown.{AreItemsOf}
use Rattle.log_context.specs.declared.log.fault.BuildFault.TheVariants.{PoolFull}
use Rattle.log_context.proofs.PoolLemmas.{IsGrown, objects_join, loop_grown, loop_full, grown_begins, passed_on}
use Rattle.log_context.proofs.ShownLemmas.{items_more}
use Rattle.log_context.proofs.log.shown.items_of.Goals as goal

pub returns-in_err-copied_item-clause-full : goal.returns-in_err-copied_item-clause-full
returns-in_err-copied_item-clause-full c = λ refused.
    let l = c.loop-object in
    let full : c.copied_item.result ≡ Err PoolFull = c.in_err-copied_item.was ∙ ap Err (passed_on c.from_residual.result _ PoolFull c.from_residual.ensures.1 refused) in
    loop_full object_trees objects_join c.args.pool.now l.pool c.args.objects.now l.object-index c.object-item.result c.loop-object-test.true c.object-item.is l.invariant.grown (c.copied_item.ensures.full full)

pub loop-object-preserved : goal.loop-object-preserved
loop-object-preserved c =
    let l = c.loop-object in
    let new = c.copied_item.new.pool in
    let object = c.object-item.result in
    let e = c.in_ok-copied_item.ensures in
    let one : IsGrown l.pool new (object_trees (object ∷ [])) = record { holds = e.added; limit = e.limit } in
    record {
      items = subst (AreItemsOf new.trees (take (l.object-index + 1) c.args.objects.now)) (sym c.in_ok-push.ensures.ok)
          (items_more l.pool.trees new.trees (grown_begins l.pool new (object_trees (object ∷ [])) one) c.args.objects.now l.items l.object-index object c.in_ok-copied_item.field-0 c.loop-object-test.true c.object-item.is
          l.invariant.items e.item);
      grown = loop_grown object_trees objects_join c.args.pool.now l.pool new c.args.objects.now l.object-index object c.loop-object-test.true c.object-item.is l.invariant.grown one;
    }
