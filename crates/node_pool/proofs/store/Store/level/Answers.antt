use Rattle.std.proofs.Common.{◌∙◌, slice_get}
use Rattle.node_pool.specs.Within.{IsWithin, tree_of}
use Rattle.node_pool.proofs.Stores.{map-copied, if-copied, seen-level, seen-before}
use Rattle.node_pool.proofs.store.Store.level.Goals as goal

pub returns-clause-tree : goal.returns-clause-tree
returns-clause-tree c =
    let s = c.self.inside in
    let o = c.args.self.now in
    map-copied (tree_of o.names o.trees) c.level_at.result (slice_get s.levels.items c.args.number) c.level_at.ensures
    ∙ seen-level s.limit c.args.number s.names.items s.levels.items o c.self.invariant c.self.view_is

pub returns-clause-before : goal.returns-clause-before
returns-clause-before c =
    let s = c.self.inside in
    let o = c.args.self.now in
    if-copied (IsWithin o.names c.args.number) c.level_at.result (slice_get s.levels.items c.args.number) c.level_at.ensures
    (seen-before s.limit c.args.number s.names.items s.levels.items o c.self.invariant c.self.view_is)
