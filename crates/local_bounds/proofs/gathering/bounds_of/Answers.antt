use Rattle.std.proofs.Common.{ap, sym, ◌∙◌}
use Rattle.std.proofs.lemmas.List.{append-nil}
use Rattle.local_bounds.specs.declared.asking.KeyDemand.TheVariants.{Free, Under}
use Rattle.local_bounds.proofs.Gathered.{bounds_more}
use Rattle.local_bounds.proofs.gathering.bounds_of.Goals as goal
use Rattle.local_bounds.proofs.gathering.bounds_of.Goals.{in-Free, in-Under+in_ok-push-in-Under}

pub loop-asking-preserved : goal.loop-asking-preserved
loop-asking-preserved c = elim c.match-asking.branch [
  | in-Free w ↦ bounds_more c.args.askings.now c.loop-asking.asking-index Free Free c.loop-asking.bounds.items c.match-asking.bounds.items c.loop-asking-test.true w.in-Free.is (λ e. absurd (cc e)) c.loop-asking.invariant
      (ap (λ v. v.items) w.bounds-is ∙ sym (append-nil c.loop-asking.bounds.items))
  | in-Under+in_ok-push-in-Under w ↦ bounds_more c.args.askings.now c.loop-asking.asking-index (Under w.in-Under.bound) Free c.loop-asking.bounds.items c.match-asking.bounds.items c.loop-asking-test.true w.in-Under.is (λ e. absurd (cc e)) c.loop-asking.invariant
      (ap (λ v. v.items) w.bounds-is ∙ w.in_ok-push-in-Under.ensures.items)
]
