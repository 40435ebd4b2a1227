use Rattle.node_pool.proofs.Stores.{within-seen, kept-place, place-seen}
use Rattle.node_pool.proofs.growing.GrowingStore.place.Goals as goal

pub invariant_of-self : goal.invariant_of-self
invariant_of-self c =
    let s = c.self.inside in
    let e = c.inserted.ensures in
    kept-place s.limit s.names.keys s.levels.keys c.inserted.new.levels.keys c.args.level c.inserted.result c.self.invariant
    (within-seen s.limit s.names.keys s.levels.keys c.args.level c.args.self.now c.self.view_is c.requires.within) e.keys e.fits e.refused

pub returns : goal.returns
returns c =
    let s = c.self.inside in
    let e = c.inserted.ensures in
    place-seen s.limit s.names.keys s.levels.keys c.inserted.new.levels.keys c.args.level c.inserted.result c.args.self.now c.self.invariant c.self.view_is c.requires.within e.keys e.number e.fits e.full e.refused
