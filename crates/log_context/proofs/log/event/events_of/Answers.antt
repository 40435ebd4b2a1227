use Rattle.std.proofs.Common.{◌∙◌, ◌++◌, ◌∷◌, [], Err, ap, append_assoc, arith, length, length-append, refl, rules, sym}
use Rattle.std.specs.Slice.Iter.{chunks_rest}
use Rattle.log_context.specs.declared.log.fault.BuildFault.TheVariants.{PoolFull}
use Rattle.log_context.proofs.Batches.{ahead_added, ahead_full, ahead_long, ahead_more, all_of, all_with, last_added, none_ahead}
use Rattle.log_context.proofs.PoolLemmas.{passed_on}
use Rattle.log_context.proofs.log.event.events_of.Goals as goal

pub loop-batch-init : goal.loop-batch-init
loop-batch-init g c = record {
  split = search rules;
  ahead = none_ahead c.args.setup.now c.args.pool.now c.new.result c.new-2.result c.new-ahead.result.items c.new.ensures (λ number. rw c.new-2.ensures.empty refl) c.new-ahead.ensures.items;
}

pub add_and_classify-requires-clause-few : goal.add_and_classify-requires-clause-few
add_and_classify-requires-clause-few g c κs within =
    let l = c.loop-batch in
    let long = ahead_long c.args.setup.now c.args.pool.now l.pool (all_of l.yielded) l.all.events l.all.selectors l.ahead.items l.invariant.ahead in
    let few = c.requires.few in
    omega (arith, few, long, ap length l.invariant.split, length-append (all_of l.yielded) (chunks_rest l.batch-iterator))

pub returns-in_err-ahead-clause-full : goal.returns-in_err-ahead-clause-full
returns-in_err-ahead-clause-full g c = λ refused.
    let l = c.loop-batch in
    let full = c.add_and_classify.ensures.full (c.in_err-ahead.was ∙ ap Err (passed_on c.from_residual.result _ PoolFull c.from_residual.ensures.1 refused)) in
    ahead_full c.args.setup.now c.args.pool.now l.pool (all_of l.yielded) (chunks_rest l.batch-iterator) c.args.events.now l.all.events l.all.selectors l.ahead.items l.invariant.ahead l.invariant.split full

pub loop-batch-preserved : goal.loop-batch-preserved
loop-batch-preserved g c =
    let l = c.loop-batch in
    let old = c.args.pool.now in
    let new = c.add_and_classify.new.pool in
    let setup = c.args.setup.now in
    let batch = c.in-Some.batch in
    let rest = chunks_rest c.next.new.self in
    let e = c.in_ok-ahead.ensures in
    let all = c.add_and_classify.new.all in
    let more = all_with l.yielded batch in
    let added = ahead_added setup old l.pool new (all_of l.yielded) l.all.events all.events l.all.selectors all.selectors l.ahead.items l.invariant.ahead e.added.added.logged e.added.added.selectors (record { holds = e.added.added.trees; limit = e.limit }) in
    record {
      split = l.invariant.split ∙ ap (λ r. all_of l.yielded ++ r) c.in-Some.ensures.steps.1.0 ∙ sym (append_assoc (all_of l.yielded) batch.now rest) ∙ ap (λ done. done ++ rest) (sym more);
      ahead = ahead_more setup old new (all_of l.yielded) batch.now (all_of (l.yielded ++ batch ∷ [])) all.events all.selectors _ added e.added.ahead more;
    }

pub add_all-requires : goal.add_all-requires
add_all-requires g c =
    let l = c.loop-batch in
    let long = ahead_long c.args.setup.now c.args.pool.now l.pool (all_of l.yielded) l.all.events l.all.selectors l.ahead.items l.invariant.ahead in
    let few = c.requires.few in
    omega (arith, few, long, ap length l.invariant.split, length-append (all_of l.yielded) (chunks_rest l.batch-iterator))

pub returns-in_err-add_all-clause-full : goal.returns-in_err-add_all-clause-full
returns-in_err-add_all-clause-full g c = λ refused.
    let l = c.loop-batch in
    let full = c.add_all.ensures.full (c.in_err-add_all.was ∙ ap Err (passed_on c.from_residual-in_err-add_all.result _ PoolFull c.from_residual-in_err-add_all.ensures.1 refused)) in
    ahead_full c.args.setup.now c.args.pool.now l.pool (all_of l.yielded) (chunks_rest l.batch-iterator) c.args.events.now l.all.events l.all.selectors l.ahead.items l.invariant.ahead l.invariant.split full

pub returns-clause-logged : goal.returns-clause-logged
returns-clause-logged g c =
    let l = c.loop-batch in
    let e = c.in_ok-add_all.ensures in
    let all = c.add_all.new.all in
    let added = last_added c.args.setup.now c.args.pool.now l.pool c.add_all.new.pool (all_of l.yielded) (chunks_rest l.batch-iterator) c.args.events.now l.all.events all.events l.all.selectors all.selectors l.ahead.items
    l.invariant.ahead l.invariant.split c.in-None.ensures.steps.1.0 e.added.logged e.added.selectors (record { holds = e.added.trees; limit = e.limit }) in
    record { logged = added.logged; selectors = added.selectors; added = added.grown.holds }
