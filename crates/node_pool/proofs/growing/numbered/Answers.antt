use Rattle.std.proofs.Common.{sym, subst}
use Rattle.node_pool.specs.Pooled.{AreDistinct}
use Rattle.node_pool.specs.Subtrees.{Begins}
use Rattle.node_pool.proofs.Adding.{stored_name, names-insert, names-distinct}
use Rattle.node_pool.proofs.growing.numbered.Goals as goal

pub returns-clause-begins : goal.returns-clause-begins
returns-clause-begins c =
    let old = c.args.names.now.keys in
    subst (Begins old) (sym c.in_ok-number.ensures.keys) (names-insert old c.args.name)

pub returns-clause-distinct : goal.returns-clause-distinct
returns-clause-distinct c = λ distinct. subst (λ l. AreDistinct l) (sym c.in_ok-number.ensures.keys) (names-distinct c.args.names.now.keys c.args.name distinct)

pub returns-clause-number : goal.returns-clause-number
returns-clause-number c =
    let s = c.in_ok-number.ensures.stored in
    stored_name c.insert_full.new.self.keys c.in_ok-number.number c.args.name s.0 s.1 s.2
