use Rattle.std.proofs.Common.{arith}
use Rattle.clouds.proofs.Firsts.{IsFirstUntilNext-reached}
use Rattle.clouds.proofs.filing.Filed.first_hidden.Goals as goal

pub returns : goal.returns
returns c =
    let fits = c.ranges.high.fits in
    λ spans filed.
    let first = rw c.min-last.ensures at c.first_reached.ensures spans filed in
    IsFirstUntilNext-reached spans c.args.revisions.now c.args.key.now c.args.low c.args.high _ _ _ c.latest.ensures c.last_before_next.ensures (omega arith) first
