use Rattle.rbac_timeline.proofs.Beginning.{clouded_cover, no_clouded}
use Rattle.rbac_timeline.proofs.search.Asked.clouded_pair.Goals as goal

pub pair_at-requires : goal.pair_at-requires
pair_at-requires c = record { from_low = c.in-Some.ensures.from_low; upto_high = c.in-Some.ensures.upto_high; firsts = c.requires }

pub returns-in-Some-clause-found : goal.returns-in-Some-clause-found
returns-in-Some-clause-found c =
    let s = c.args.self.now in
    clouded_cover s.timeline.now c.args.way s.who.now s.attrs.now c.args.key.now s.low s.high c.in-Some.place c.pair_at.result c.in-Some.ensures c.pair_at.ensures.found

pub returns-in-None-clause-found : goal.returns-in-None-clause-found
returns-in-None-clause-found c =
    let s = c.args.self.now in
    no_clouded s.timeline.now c.args.way s.who.now s.attrs.now c.args.key.now s.low s.high c.in-None.ensures
