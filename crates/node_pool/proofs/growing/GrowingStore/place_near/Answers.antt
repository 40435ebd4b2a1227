use Rattle.node_pool.specs.Within.{tree_of}
use Rattle.node_pool.proofs.Stays.{places-standing}
use Rattle.node_pool.proofs.growing.GrowingStore.place_near.Goals as goal

pub returns-in-Some : goal.returns-in-Some
returns-in-Some c =
    let o = c.args.self.now in
    let e = c.in-Some.ensures in
    places-standing o (tree_of o.names o.trees c.args.level) c.in-Some.number e.number e.placed c.standing.ensures.room
