use Rattle.std.proofs.Common.{ℕ}
use Rattle.rbac_timeline.specs.Kept.{MayGrantByListed}
use Rattle.rbac_timeline.proofs.Pairing.{IsFirstPair-at}
use Rattle.rbac_timeline.proofs.search.Asked.pair_at.Goals as goal

pub returns-clause-found : goal.returns-clause-found
returns-clause-found c =
    let s = c.args.self.now in
    IsFirstPair-at (λ (r b : ℕ). MayGrantByListed s.timeline.now c.args.way r b s.who.now s.attrs.now c.args.key.now) s.low s.high c.args.place _ c.requires.from_low c.requires.upto_high c.role_for.ensures.found
    c.pair_with.result c.pair_with.ensures
