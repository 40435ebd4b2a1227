use Rattle.std.proofs.Common.{◌≡◌, ◌≤◌, ◌+◌, ℕ, length, Some, arith}
use Rattle.base_types.specs.Pointers.{index_of}
use Rattle.base_types.proofs.Indices.{kid_past, item_past}
use Rattle.json_patch.specs.Joined.{joined}
use Rattle.json_patch.proofs.chunks.find.Goals as goal

pub returns-in-Err-clause-none : goal.returns-in-Err-clause-none
returns-in-Err-clause-none c =
    let all = joined c.args.parts.now in
    let at : c.in-Some.index ≡ length all + c.in-Err.field-0 = c.in-Err.ensures.past in
    let past : length all ≤ c.in-Some.index = omega arith in
    item_past all c.in-Some.index (index_of c.args.token.now) c.in-Some.ensures.some past

pub returns-in_ok-_count-in-None-clause-none : goal.returns-in_ok-_count-in-None-clause-none
returns-in_ok-_count-in-None-clause-none c =
    let all = joined c.args.parts.now in
    let count = c.in_ok-_count-in-None.ensures.count in
    let past = λ (n : ℕ) (is : index_of c.args.token.now ≡ Some n). let far = c.in-None.ensures.none n is in let near : length all ≤ n = grind arith in near in
    kid_past all (index_of c.args.token.now) past
