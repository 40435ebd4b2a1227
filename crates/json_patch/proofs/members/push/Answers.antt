use Rattle.std.proofs.Common.{◌≡◌, ◌+◌, ◌-◌, ◌∷◌, [], length, set, ap, ◌∙◌, arith}
use Rattle.std.proofs.lemmas.Result.{on_ok_weaker}
use Rattle.json_patch.specs.Joined.{joined}
use Rattle.json_patch.proofs.Joins.{joined_longer}
use Rattle.json_patch.proofs.members.push.Goals as goal

pub returns-then-len-lt-MAX_MEMBERS : goal.returns-then-len-lt-MAX_MEMBERS
returns-then-len-lt-MAX_MEMBERS c =
    let parts = c.args.parts.now.items in
    let count = c.len-count.ensures in
    let some = c.if-count-gt0.true in
    let last : c.len-count.result - 1 + 1 ≡ length parts = omega arith in
    on_ok_weaker c.push.result
    (λ more. ap (λ p. joined (set parts (c.len-count.result - 1) p)) more ∙ joined_longer parts (c.len-count.result - 1) c.index_mut-last.result.now (c.args.member ∷ []) last c.index_mut-last.ensures.value) c.push.ensures
