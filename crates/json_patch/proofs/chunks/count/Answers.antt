use Rattle.std.proofs.Common.{◌+◌, ◌^◌, ◌<◌, arith}
use Rattle.json_patch.proofs.Joins.{counted_within}
use Rattle.json_patch.proofs.chunks.count.Goals as goal

pub returns-in-None-clause-uncounted : goal.returns-in-None-clause-uncounted
returns-in-None-clause-uncounted c =
    let within = counted_within c.args.parts.now c.loop-part.part-index c.part-item.result c.loop-part-test.true c.part-item.is in
    let past : c.loop-part.count + c.len.result < 2 ^ 64 → ⊥ = c.in-None.ensures in
    omega (arith, within, past, c.loop-part.invariant, c.len.ensures)
