use Rattle.std.proofs.Common.{ℕ, ⊎_elim, subst}
use Rattle.clouds.specs.FirstPlace.{IsFirstPlace}
use Rattle.rbac_timeline.specs.Extents.{MayGrantByRole}
use Rattle.rbac_timeline.proofs.search.Asked.first_role_once.Goals as goal

pub returns-clause-firsts : goal.returns-clause-firsts
returns-clause-firsts c = λ role place at.
    let s = c.args.self.now in
    ⊎_elim
    (λ before. c.requires.firsts role place before)
    (λ both.
    subst (λ k. IsFirstPlace (λ (r : ℕ). MayGrantByRole s.timeline.now k r s.attrs.now) s.low s.high place) both.0
    (subst (λ o. IsFirstPlace (λ (r : ℕ). MayGrantByRole s.timeline.now c.args.role.now r s.attrs.now) s.low s.high o) both.1 c.first_role-place.ensures))
    (c.remember.ensures role place at)
