use Rattle.std.proofs.Common.{subst, sym, ◌∙◌}
use Rattle.clouds.specs.Filed.{AreRecorded}
use Rattle.clouds.specs.Recorded.{revisions_at}
use Rattle.clouds.proofs.Keeping.{AreRecorded-more, taken_more}
use Rattle.clouds.proofs.recorded.record_each.Goals as goal

pub loop-write-preserved : goal.loop-write-preserved
loop-write-preserved c = (
  subst (λ l. AreRecorded (revisions_at c.add_revision.new.recorded) l) (sym (taken_more (λ write. write.now) c.args.writes.now _ c.write-item.result c.loop-write-test.true c.write-item.is))
      (AreRecorded-more _ _ _ c.write-item.result.now c.in_ok-add_revision.ensures.revisions c.loop-write.invariant.0),
  λ key. c.in_ok-add_revision.ensures.firsts key ∙ c.loop-write.invariant.1 key,
)
