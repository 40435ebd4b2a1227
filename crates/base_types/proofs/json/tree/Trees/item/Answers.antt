use Rattle.std.proofs.Common.{◌≡◌, get_or, subst}
use Rattle.base_types.specs.Pointers.{index_of}
use Rattle.base_types.proofs.Indices.{item_read}
use Rattle.base_types.proofs.json.tree.Trees.item.Goals as goal

pub returns-in-Some : goal.returns-in-Some
returns-in-Some c =
    let found = c.in-Some.ensures.some in
    let read = subst (λ ts. c.index.result.now ≡ get_or ts c.in-Some.index c.index.result.now) c.self.view_is c.index.ensures in
    item_read c.args.self.now c.in-Some.index (index_of c.args.token.now) c.index.result.now found.0 found.1 read
