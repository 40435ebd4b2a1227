use Rattle.std.proofs.Common.{ℕ}
use Rattle.std.proofs.lemmas.Bool.{both_ways}
use Rattle.rbac_timeline.specs.Extents.{MayGrantByRole}
use Rattle.rbac_timeline.proofs.Pairing.{IsFirstPlace-at, IsFirstPlace-not_at}
use Rattle.rbac_timeline.proofs.search.Asked.role_at.Goals as goal

pub returns-then-role_extent : goal.returns-then-role_extent
returns-then-role_extent c =
    let s = c.args.self.now in
    IsFirstPlace-at (λ (r : ℕ). MayGrantByRole s.timeline.now c.args.role.now r s.attrs.now) s.low s.high c.args.place c.requires.from_low c.requires.upto_high (c.role_extent.ensures.may.0 c.if-role_extent.true)

pub returns : goal.returns
returns c =
    let s = c.args.self.now in
    IsFirstPlace-not_at (λ (r : ℕ). MayGrantByRole s.timeline.now c.args.role.now r s.attrs.now) s.low s.high c.args.place (λ may. both_ways _ c.if-role_extent.false (c.role_extent.ensures.may.1 may))
