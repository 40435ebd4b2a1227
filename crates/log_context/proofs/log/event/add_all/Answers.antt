use Rattle.std.proofs.Common.{◌≡◌, ◌∙◌, ◌<◌, ◌++◌, ◌∷◌, [], Err, ap, append_assoc, arith, length, length-append, subst, sym}
use Rattle.std.proofs.lemmas.List.{append-nil, nil_from_length}
use Rattle.std.specs.Vec.Iter.{into_iter_items}
use Rattle.log_context.specs.AllLogged.{AddsBatch}
use Rattle.log_context.specs.Classified.{classified_trees}
use Rattle.log_context.specs.LogTrees.{answer_trees, with_trees}
use Rattle.log_context.specs.declared.log.classifying.Classified.{Classified}
use Rattle.log_context.specs.declared.log.fault.BuildFault.TheVariants.{PoolFull}
use Rattle.log_context.proofs.ClassifiedLemmas.{adds_event, adds_no_events, adds_no_selectors, adds_selector}
use Rattle.log_context.proofs.PoolLemmas.{IsGrown, flattened_join, full_one, grown_begins, grown_full, grown_more, grown_none, grown_one, passed_on}
use Rattle.log_context.proofs.log.event.add_all.Goals as goal

pub returns-in_err-logged_event-clause-full : goal.returns-in_err-logged_event-clause-full
returns-in_err-logged_event-clause-full c = λ refused.
    let l = c.loop-one in
    let old = c.args.pool.now in
    let one = c.in-Some.one in
    let f = λ (classified : Classified). answer_trees classified.answer in
    let rest = into_iter_items c.next.new.self in
    let full = c.logged_event.ensures.full (c.in_err-logged_event.was ∙ ap Err (passed_on c.from_residual.result _ PoolFull c.from_residual.ensures.1 refused)) in
    let split : c.args.classified.items ≡ l.yielded ++ one ∷ rest = l.invariant.split ∙ ap (λ r. l.yielded ++ r) c.in-Some.ensures.steps.0 in
    let joining = flattened_join f in
    let parts = joining.joins l.yielded (one ∷ [] ++ rest) ∙ ap (λ ts. classified_trees l.yielded ++ ts) (joining.joins (one ∷ []) rest) in
    subst (λ ts. old.limit < length (with_trees old.trees ts)) (sym (ap classified_trees split ∙ parts))
    (grown_full old l.pool (classified_trees l.yielded) (classified_trees (one ∷ [])) (classified_trees rest) l.invariant.grown (full_one f l.pool one full))

pub loop-one-preserved : goal.loop-one-preserved
loop-one-preserved c =
    let l = c.loop-one in
    let old = c.args.pool.now in
    let new = c.logged_event.new.pool in
    let one = c.in-Some.one in
    let f = λ (classified : Classified). answer_trees classified.answer in
    let rest = into_iter_items c.next.new.self in
    let steps = c.in-Some.ensures.steps in
    let e = c.in_ok-logged_event.ensures in
    let grown : IsGrown l.pool new (classified_trees (one ∷ [])) = grown_one f l.pool new one (record { holds = e.added; limit = e.limit }) in
    let begins = grown_begins l.pool new (classified_trees (one ∷ [])) grown in
    let left = l.invariant.left in
    let counted = l.invariant.counted in
    let fewer = steps.1 in
    let pushed = c.in_ok-add.ensures.event in
    record {
      split = l.invariant.split ∙ ap (λ r. l.yielded ++ r) steps.0 ∙ sym (append_assoc l.yielded (one ∷ []) rest);
      left = omega (arith, ap length steps.0);
      counted = omega (arith, counted, ap length pushed, length-append l.all.events (c.in_ok-logged_event.field-0.event ∷ []), length-append l.yielded (one ∷ []));
      logged = adds_event old.trees l.pool.trees new.trees l.yielded one c.args.all.now.events l.all.events c.add.new.all.events c.in_ok-logged_event.field-0.event begins l.invariant.logged e.logged pushed;
      selectors = adds_selector c.args.all.now.events l.yielded one c.len-number.result c.in_ok-logged_event.field-0.selector c.args.all.now.selectors l.all.selectors c.add.new.all.selectors (c.len-number.ensures ∙ counted) l.invariant.selectors e.selector c.in_ok-add.ensures.selector;
      grown = subst (IsGrown old new) (sym ((flattened_join f).joins l.yielded (one ∷ []))) (grown_more old l.pool new (classified_trees l.yielded) (classified_trees (one ∷ [])) l.invariant.grown grown);
    }

pub loop-one-init : goal.loop-one-init
loop-one-init c =
    let pool = c.args.pool.now in
    let all = c.args.all.now in
    let gives = c.into_iter-one-iterator.ensures.into_iter_gives in
    let items = gives.0 in
    let long = gives.1 in
    record {
      split = sym items;
      left = omega (arith, long, ap length items);
      counted = omega arith;
      logged = adds_no_events pool.trees all.events;
      selectors = adds_no_selectors all.events all.selectors;
      grown = grown_none pool;
    }

pub returns-clause-added : goal.returns-clause-added
returns-clause-added c =
    let l = c.loop-one in
    let left = l.invariant.left in
    let none = c.in-None.ensures.steps.0 in
    let rest = nil_from_length (into_iter_items l.one-iterator) (omega (arith, left, none)) in
    let whole = l.invariant.split ∙ ap (λ r. l.yielded ++ r) rest ∙ append-nil l.yielded in
    subst (λ batch. AddsBatch c.args.pool.now.trees l.pool.trees batch c.args.all.now l.all) (sym whole) (record { logged = l.invariant.logged; selectors = l.invariant.selectors; trees = l.invariant.grown.holds })
