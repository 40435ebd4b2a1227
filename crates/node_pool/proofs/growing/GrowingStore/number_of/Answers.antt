use Rattle.node_pool.proofs.Adding.{kept-names}
use Rattle.node_pool.proofs.Stores.{grows-names, same-trees}
use Rattle.node_pool.proofs.growing.GrowingStore.number_of.Goals as goal

pub invariant_of-self : goal.invariant_of-self
invariant_of-self c =
    let s = c.self.inside in
    let kept = c.self.invariant in
    kept-names s.limit s.names.keys c.numbered.new.names.keys s.levels.keys kept c.numbered.ensures.begins (c.numbered.ensures.distinct kept.one_number_a_name)

pub returns-clause-grows : goal.returns-clause-grows
returns-clause-grows c =
    let s = c.self.inside in
    grows-names s.limit s.names.keys c.numbered.new.names.keys s.levels.keys c.args.self.now c.self.invariant c.self.view_is c.numbered.ensures.begins

pub returns-clause-trees : goal.returns-clause-trees
returns-clause-trees c =
    let s = c.self.inside in
    same-trees s.limit s.names.keys c.numbered.new.names.keys s.levels.keys c.args.self.now c.self.invariant c.self.view_is c.numbered.ensures.begins
