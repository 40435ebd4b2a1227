use Rattle.std.proofs.Common.{subst, sym}
use Rattle.rbac_timeline.specs.Indexed.{IsIndexed}
use Rattle.rbac_timeline.proofs.Mentions.{mentions_more}
use Rattle.rbac_timeline.proofs.index.Index.of.Goals as goal

pub loop-version-preserved : goal.loop-version-preserved
loop-version-preserved c =
    let added = rw c.named_subjects-subjects.ensures at c.in_ok-add_each.ensures in
    subst (λ l. IsIndexed c.add_each.new.self l) (sym (mentions_more c.args.versions.now _ c.version-item.result c.loop-version-test.true c.version-item.is))
    (added _ c.loop-version.invariant)
