use Rattle.std.proofs.Common.{◌≡◌, ◌∙◌, ◌<◌, ◌+◌, ◌++◌, ◌∷◌, [], Err, ap, append_assoc, arith, length, subst, sym}
use Rattle.std.proofs.lemmas.Slice.Zip.{all_zipped_more}
use Rattle.std.specs.Vec.Iter.{into_iter_items}
use Rattle.log_context.specs.LogTrees.{object_trees, with_trees}
use Rattle.log_context.specs.Shown.{AreItemsOf, IsItemOf}
use Rattle.log_context.specs.declared.log.fault.BuildFault.TheVariants.{PoolFull}
use Rattle.log_context.proofs.PoolLemmas.{IsGrown, objects_join, grown_more, grown_full, grown_begins, passed_on}
use Rattle.log_context.proofs.ShownLemmas.{items_stay}
use Rattle.log_context.proofs.log.shown.moved_items.Goals as goal

pub returns-in_err-moved_item-clause-full : goal.returns-in_err-moved_item-clause-full
returns-in_err-moved_item-clause-full c = λ refused.
    let l = c.loop-object in
    let old = c.args.pool.now in
    let object = c.in-Some.object in
    let rest = into_iter_items c.next.new.self in
    let full : c.moved_item.result ≡ Err PoolFull = c.in_err-moved_item.was ∙ ap Err (passed_on c.from_residual.result _ PoolFull c.from_residual.ensures.1 refused) in
    let split : c.args.objects ≡ l.yielded ++ object ∷ rest = l.invariant.split ∙ ap (λ r. l.yielded ++ r) c.in-Some.ensures.steps.0 in
    subst (λ ts. old.limit < length (with_trees old.trees ts)) (sym (ap object_trees split ∙ objects_join.joins l.yielded (object ∷ rest)))
    (grown_full old l.pool (object_trees l.yielded) (object_trees (object ∷ [])) (object_trees rest) l.invariant.grown (c.moved_item.ensures.full full))

pub loop-object-preserved : goal.loop-object-preserved
loop-object-preserved c =
    let l = c.loop-object in
    let old = c.args.pool.now in
    let new = c.moved_item.new.pool in
    let object = c.in-Some.object in
    let rest = into_iter_items c.next.new.self in
    let steps = c.in-Some.ensures.steps in
    let e = c.in_ok-moved_item.ensures in
    let one : IsGrown l.pool new (object_trees (object ∷ [])) = record { holds = e.added; limit = e.limit } in
    let begins = grown_begins l.pool new (object_trees (object ∷ [])) one in
    let left = l.invariant.left in
    let fewer = steps.1 in
    record {
      split = l.invariant.split ∙ ap (λ r. l.yielded ++ r) steps.0 ∙ sym (append_assoc l.yielded (object ∷ []) rest);
      left = omega (arith, ap length steps.0);
      items = subst (AreItemsOf new.trees (l.yielded ++ object ∷ [])) (sym c.in_ok-push.ensures.ok)
          (all_zipped_more (IsItemOf new.trees) l.yielded l.items object c.in_ok-moved_item.field-0 (items_stay l.pool.trees new.trees begins l.yielded l.items l.invariant.items) e.item);
      grown = subst (IsGrown old new) (sym (objects_join.joins l.yielded (object ∷ []))) (grown_more old l.pool new (object_trees l.yielded) (object_trees (object ∷ [])) l.invariant.grown one);
    }
