-- From the three ways to the two decisions.
use Rattle.std.proofs.Common.{◌≡◌, ◌↔◌, ⊎_elim, Bool, true, not, ◌||◌}
use Rattle.std.proofs.lemmas.Bool.{both_ways, cases_Bool, not-true, not_from_false, or_cases, or_left, or_right}
use Rattle.base_types.specs.declared.verdict.placed.Places.{Places}
use Rattle.base_types.specs.declared.kubernetes.request.Decision.TheVariants.{Allow, Forbid}
use Rattle.base_types.specs.declared.kubernetes.request.RequestAttrs.{RequestAttrs}
use Rattle.base_types.specs.declared.kubernetes.request.User.{User}
use Rattle.rbac_timeline.specs.declared.way.Way.{Way}
use Rattle.rbac_timeline.specs.declared.way.Way.TheVariants.{ClusterBindings, ClusterRoles, Roles}
use Rattle.rbac_timeline.specs.Choices.{IsBypassed}
use Rattle.rbac_timeline.specs.Decisions.{IsPossible}
use Rattle.rbac_timeline.specs.Known.{Known}
use Rattle.rbac_timeline.specs.Sound.{AreSound}
use Rattle.rbac_timeline.proofs.Choosing.{allow_from_may, forbid_from_not_must, may_by_group, may_from_allow, must_by_group, not_must_from_forbid}
use Rattle.rbac_timeline.proofs.Ways.{MayInWay, MustInWay, may_from_way, must_from_way, way_from_may, way_from_must}

-- a test of each way
pub record AreTests (P : Way → Type 0) (roles cluster_roles cluster_bindings : Bool) : Type 0 where
  pub by_roles : (roles ≡ true) ↔ P Roles
  pub by_cluster_roles : (cluster_roles ≡ true) ↔ P ClusterRoles
  pub by_cluster_bindings : (cluster_bindings ≡ true) ↔ P ClusterBindings

some_way : (P : Way → Type 0) (a b c : Bool) → AreTests P a b c → (a || b || c) ≡ true → (way : Way) × P way
some_way P a b c tests passed = ⊎_elim
    (λ ab. ⊎_elim (λ first. (Roles, tests.by_roles.0 first)) (λ second. (ClusterRoles, tests.by_cluster_roles.0 second)) (or_cases a b ab))
    (λ third. (ClusterBindings, tests.by_cluster_bindings.0 third))
    (or_cases (a || b) c passed)

test_of_way : (P : Way → Type 0) (a b c : Bool) → AreTests P a b c → (way : Way) → P way → (a || b || c) ≡ true
test_of_way P a b c tests Roles holds = or_left (a || b) c (or_left a b (tests.by_roles.1 holds))
test_of_way P a b c tests ClusterRoles holds = or_left (a || b) c (or_right a b (tests.by_cluster_roles.1 holds))
test_of_way P a b c tests ClusterBindings holds = or_right (a || b) c (tests.by_cluster_bindings.1 holds)

module _ (known : Known) (sound : AreSound known.versions known.ends) (places : Places) (who : User) (attrs : RequestAttrs) where
  pub allow_bypassed : IsBypassed known who → IsPossible known places who attrs Allow
  allow_bypassed bypassed = allow_from_may known sound places who attrs (may_by_group bypassed)

  pub not_forbid_bypassed : IsBypassed known who → IsPossible known places who attrs Forbid → ⊥
  not_forbid_bypassed bypassed possible = not_must_from_forbid known places who attrs possible (must_by_group bypassed)

  pub allow_by_ways : (IsBypassed known who → ⊥) → (a b c : Bool) → AreTests (MayInWay known places who attrs) a b c → ((a || b || c) ≡ true) ↔ IsPossible known places who attrs Allow
  allow_by_ways plain a b c tests = (
    (λ yes. let found = some_way (MayInWay known places who attrs) a b c tests yes in allow_from_may known sound places who attrs (may_from_way known places who attrs found.0 found.1)),
    (λ possible. ⊎_elim
        (λ bypassed. absurd (plain bypassed))
        (λ found. test_of_way (MayInWay known places who attrs) a b c tests found.0 found.1)
        (way_from_may known places who attrs (may_from_allow known places who attrs possible))),
  )

  pub forbid_by_ways : (IsBypassed known who → ⊥) → (a b c : Bool) → AreTests (MustInWay known places who attrs) a b c → (not (a || b || c) ≡ true) ↔ IsPossible known places who attrs Forbid
  forbid_by_ways plain a b c tests = (
    (λ yes. forbid_from_not_must known sound places who attrs (λ must. ⊎_elim
        plain
        (λ found. both_ways (a || b || c) (not-true (a || b || c) yes) (test_of_way (MustInWay known places who attrs) a b c tests found.0 found.1))
        (way_from_must known sound places who attrs must))),
    (λ possible. ⊎_elim
        (λ yes. let found = some_way (MustInWay known places who attrs) a b c tests yes in
        absurd (not_must_from_forbid known places who attrs possible (must_from_way known places who attrs found.0 found.1)))
        (λ no. not_from_false (a || b || c) no)
        (cases_Bool (a || b || c))),
  )
