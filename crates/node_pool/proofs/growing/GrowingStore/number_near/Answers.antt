use Rattle.node_pool.proofs.Walks.{Grows-refl}
use Rattle.node_pool.proofs.growing.GrowingStore.number_near.Goals as goal

pub returns-in-Some-clause-grows : goal.returns-in-Some-clause-grows
returns-in-Some-clause-grows c = Grows-refl c.args.self.now

pub returns-in_err-text-clause-grows : goal.returns-in_err-text-clause-grows
returns-in_err-text-clause-grows c = Grows-refl c.args.self.now
