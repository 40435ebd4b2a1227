use Rattle.std.proofs.Common.{sym, ◌∙◌}
use Rattle.path_shape.proofs.EntryLemmas.{entries_step}
use Rattle.path_shape.proofs.reading.read_entries.Goals as goal

pub loop-i-preserved : goal.loop-i-preserved
loop-i-preserved c =
    rw c.in_ok-push.ensures.ok
    (c.loop-i.invariant
    ∙ entries_step c.args.trees.now c.loop-i.i c.loop-i.entries c.in-Some.entry c.index-trees-i.result c.loop-i-test.true c.index-trees-i.is (sym c.in_ok-entry.ensures ∙ c.in-Some.is))
