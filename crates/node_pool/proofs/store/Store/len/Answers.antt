use Rattle.std.proofs.Common.{◌∙◌}
use Rattle.node_pool.proofs.Stores.{seen-length, seen-room}
use Rattle.node_pool.proofs.store.Store.len.Goals as goal

pub returns-clause-len : goal.returns-clause-len
returns-clause-len c =
    let s = c.self.inside in
    c.len.ensures ∙ s.levels.ok.0 ∙ seen-length s.limit s.names.items s.levels.items c.args.self.now c.self.view_is

pub returns-clause-room : goal.returns-clause-room
returns-clause-room c =
    let s = c.self.inside in
    seen-room s.limit s.names.items s.levels.items c.args.self.now c.self.invariant c.self.view_is
