use Rattle.std.proofs.Common.{sym}
use Rattle.node_pool.proofs.Adding.{found_level}
use Rattle.node_pool.proofs.Stores.{stored}
use Rattle.node_pool.proofs.growing.inserted.Goals as goal

pub returns-then-len-limit-clause-number : goal.returns-then-len-limit-clause-number
returns-then-len-limit-clause-number c =
    let s = c.in_ok-index.ensures.stored in
    stored c.insert_full.new.self.keys c.in_ok-index.index c.args.level s.0 s.1 s.2

pub returns-in-Some-clause-number : goal.returns-in-Some-clause-number
returns-in-Some-clause-number c = found_level c.args.level c.args.levels.now.keys c.in-Some.index (sym c.in-Some.ensures.index)
