use Rattle.std.proofs.Common.{sym, ◌∙◌}
use Rattle.object_past.proofs.Walking.{below_more}
use Rattle.object_past.proofs.lacking.place_of.Goals as goal

pub loop-place-preserved : goal.loop-place-preserved
loop-place-preserved c = below_more c.args.keys.now c.args.key.now c.loop-place.place c.loop-place.invariant c.index-keys-place.result c.loop-place-test.true c.index-keys-place.is (sym c.is_below.ensures ∙ c.if-not-is_below.false)
