use Rattle.std.proofs.Common.{◌≡◌, ◌+◌, ◌-◌, ◌∷◌, [], length, arith}
use Rattle.clouds.proofs.Joined.{joined_longer}
use Rattle.clouds.proofs.unrecorded.Unrecorded.add.Goals as goal

pub returns-then-branch : goal.returns-then-branch
returns-then-branch c =
    let taken = c.in_ok-take.ensures.taken c.if-branch.true in
    let count = c.len-count.ensures in
    let long = c.self.inside.parts.ok.0 in
    let some = c.if-count-gt0.true in
    let last : c.len-count.result - 1 + 1 ≡ length c.self.inside.parts.items = omega arith in
    rw (taken, ← c.self.view_is)
    (joined_longer c.self.inside.parts.items (c.len-count.result - 1) c.index_mut-last.result.now (c.args.span.now ∷ []) last c.index_mut-last.ensures.value)
