use Rattle.std.proofs.Common.{sym, ◌∙◌}
use Rattle.node_pool.specs.Flat.{flat_eq-Decides}
use Rattle.node_pool.proofs.near.is_level.Goals as goal

pub returns : goal.returns
returns c = λ yes. (flat_eq-Decides c.args.there.now c.args.level.now).0 (sym c.eq.ensures ∙ yes)
