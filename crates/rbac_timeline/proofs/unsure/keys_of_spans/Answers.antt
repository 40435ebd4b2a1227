use Rattle.rbac_timeline.specs.Unsure.{GivesNamed}
use Rattle.rbac_timeline.proofs.Finding.{one_named}
use Rattle.rbac_timeline.proofs.Gathering.{AreGathered-more, AreGathered-skip}
use Rattle.rbac_timeline.proofs.unsure.keys_of_spans.Goals as goal
use Rattle.rbac_timeline.proofs.unsure.keys_of_spans.Goals.{in-Some+in_ok-push, in_default}

pub loop-span-preserved : goal.loop-span-preserved
loop-span-preserved c = elim c.match-branch-2.branch [
  | in-Some+in_ok-push w ↦
      let names = rw w.in-Some.is at c.in_ok-key.ensures.some in
      rw (w.keys-is, w.in_ok-push.ensures.items)
      (AreGathered-more GivesNamed c.args.spans.now _ c.span-item.result _ w.in-Some.key c.loop-span-test.true c.span-item.is c.loop-span.invariant
      names (λ z gives. one_named c.span-item.result.cover w.in-Some.key z names gives))
  | in_default w ↦
      let unnamed = rw w.in_default.is at c.in_ok-key.ensures.none in
      rw w.keys-is
      (AreGathered-skip GivesNamed c.args.spans.now _ c.span-item.result _ c.loop-span-test.true c.span-item.is c.loop-span.invariant unnamed)
]
