use Rattle.node_pool.specs.Within.{tree_of}
use Rattle.node_pool.proofs.Stays.{standing-number, standing-placed}
use Rattle.node_pool.proofs.Stores.{seen-room}
use Rattle.node_pool.proofs.growing.GrowingStore.standing.Goals as goal

pub returns-clause-number : goal.returns-clause-number
returns-clause-number c =
    let s = c.self.inside in
    standing-number s.limit s.names.keys s.levels.keys c.args.level.now c.standing.result c.args.self.now c.self.invariant c.self.view_is c.standing.ensures

pub returns-clause-placed : goal.returns-clause-placed
returns-clause-placed c =
    let s = c.self.inside in
    let o = c.args.self.now in
    standing-placed o.trees (tree_of o.names o.trees c.args.level.now) c.standing.result
    (standing-number s.limit s.names.keys s.levels.keys c.args.level.now c.standing.result o c.self.invariant c.self.view_is c.standing.ensures)

pub returns-clause-room : goal.returns-clause-room
returns-clause-room c =
    let s = c.self.inside in
    seen-room s.limit s.names.keys s.levels.keys c.args.self.now c.self.invariant c.self.view_is
