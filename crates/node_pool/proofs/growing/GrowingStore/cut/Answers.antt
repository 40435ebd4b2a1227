use Rattle.std.proofs.Common.{◌∙◌, ap, sym, subst, []}
use Rattle.node_pool.specs.Kept.{AreLevelsKept}
use Rattle.node_pool.specs.Within.{trees_from}
use Rattle.node_pool.proofs.Adding.{kept-take}
use Rattle.node_pool.proofs.Stores.{seen-take}
use Rattle.node_pool.proofs.growing.GrowingStore.cut.Goals as goal

pub invariant_of-self : goal.invariant_of-self
invariant_of-self c =
    let s = c.self.inside in
    subst (AreLevelsKept s.limit s.names.keys) (sym c.truncate.ensures.keys) (kept-take s.limit s.names.keys c.args.len s.levels.keys c.self.invariant)

pub returns-clause-trees : goal.returns-clause-trees
returns-clause-trees c =
    let s = c.self.inside in
    ap (trees_from s.names.keys []) c.truncate.ensures.keys ∙ seen-take s.limit c.args.len s.names.keys s.levels.keys c.args.self.now c.self.view_is
