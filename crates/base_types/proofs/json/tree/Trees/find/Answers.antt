use Rattle.std.proofs.Common.{◌≡◌, ◌≤◌, ℕ, length, Some, ap, arith}
use Rattle.base_types.specs.Pointers.{index_of}
use Rattle.base_types.proofs.Indices.{kid_past, item_past}
use Rattle.base_types.proofs.json.tree.Trees.find.Goals as goal

pub returns-in-None-clause-none : goal.returns-in-None-clause-none
returns-in-None-clause-none c =
    let all : length c.self.inside.all.items ≡ length c.args.self.now = ap length c.self.view_is in
    let past = λ (n : ℕ) (is : index_of c.args.token.now ≡ Some n). let far = c.in-None.ensures.none n is in let near : length c.args.self.now ≤ n = grind arith in near in
    kid_past c.args.self.now (index_of c.args.token.now) past

pub returns-in-Some-2-clause-none : goal.returns-in-Some-2-clause-none
returns-in-Some-2-clause-none c =
    let all : length c.self.inside.all.items ≡ length c.args.self.now = ap length c.self.view_is in
    let past : length c.args.self.now ≤ c.in-Some.index = grind arith in
    item_past c.args.self.now c.in-Some.index (index_of c.args.token.now) c.in-Some.ensures.some past
