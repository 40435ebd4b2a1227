use Rattle.packed_tree.specs.Showing.{meaning_of}
use Rattle.node_pool.proofs.Stays.{leaf-number, leaf-added}
use Rattle.node_pool.proofs.Stores.{seen-room}
use Rattle.node_pool.proofs.growing.GrowingStore.leaf_near.Goals as goal

pub returns-clause-number : goal.returns-clause-number
returns-clause-number c =
    let s = c.self.inside in
    leaf-number s.limit s.names.keys s.levels.keys (meaning_of c.args.shown.now) c.leaf.result c.args.self.now c.self.invariant c.self.view_is c.leaf.ensures

pub returns-clause-added : goal.returns-clause-added
returns-clause-added c =
    let s = c.self.inside in
    let o = c.args.self.now in
    leaf-added s.levels.keys o.trees (meaning_of c.args.shown.now) c.leaf.result c.leaf.ensures
    (leaf-number s.limit s.names.keys s.levels.keys (meaning_of c.args.shown.now) c.leaf.result o c.self.invariant c.self.view_is c.leaf.ensures)

pub returns-clause-room : goal.returns-clause-room
returns-clause-room c =
    let s = c.self.inside in
    seen-room s.limit s.names.keys s.levels.keys c.args.self.now c.self.invariant c.self.view_is
