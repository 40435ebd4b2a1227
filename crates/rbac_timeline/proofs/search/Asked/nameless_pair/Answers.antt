use Rattle.std.proofs.Common.{ℕ}
use Rattle.rbac_timeline.specs.Extents.{MayGrantNameless}
use Rattle.rbac_timeline.proofs.Pairing.{IsFirstPair-any}
use Rattle.rbac_timeline.proofs.search.Asked.nameless_pair.Goals as goal

pub returns-in-Some : goal.returns-in-Some
returns-in-Some c =
    let s = c.args.self.now in
    IsFirstPair-any (λ (b : ℕ). MayGrantNameless s.timeline.now c.args.way b s.attrs.now) s.low s.high c.in-Some.place c.requires c.in-Some.ensures

pub returns-in-None : goal.returns-in-None
returns-in-None c = λ r b r_from r_upto b_from b_upto may. c.in-None.ensures b b_from b_upto may
