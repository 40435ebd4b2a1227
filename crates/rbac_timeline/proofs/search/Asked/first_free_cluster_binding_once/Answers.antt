use Rattle.std.proofs.Common.{⊎_elim, subst}
use Rattle.rbac_timeline.specs.Freed.{IsFirstFree}
use Rattle.rbac_timeline.proofs.search.Asked.first_free_cluster_binding_once.Goals as goal

pub returns-clause-remembered : goal.returns-clause-remembered
returns-clause-remembered c = λ cluster_roles found at.
    let s = c.args.self.now in
    ⊎_elim
    (λ before. c.requires.remembered cluster_roles found before)
    (λ both.
    subst (λ place. IsFirstFree s.timeline.now s.who.now s.attrs.now s.low s.high place found) both.0
    (subst (λ answer. IsFirstFree s.timeline.now s.who.now s.attrs.now s.low s.high c.args.cluster_roles answer) both.1 c.first_free_cluster_binding-found.ensures))
    (c.remember.ensures cluster_roles found at)
