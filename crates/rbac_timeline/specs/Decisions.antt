-- An authorizer keeps roles, cluster roles, role bindings and cluster role bindings in four caches, and each may be
-- behind by itself.
use Rattle.std.specs.Prelude.{◌≤◌, ℕ}
use Rattle.base_types.specs.declared.verdict.placed.Places.{Places}
use Rattle.base_types.specs.declared.kubernetes.request.Decision.{Decision}
use Rattle.base_types.specs.declared.kubernetes.request.Decision.TheVariants.{Allow, Forbid}
use Rattle.base_types.specs.declared.kubernetes.request.RequestAttrs.{RequestAttrs}
use Rattle.base_types.specs.declared.kubernetes.request.User.{User}
use Rattle.rbac_timeline.specs.Choices.{Allows, Choice, IsChoice}
use Rattle.rbac_timeline.specs.Known.{Known}

-- the choice makes the authorizer answer so
abbrev pub Answers : Known → Choice → User → RequestAttrs → Decision → Type 0
Answers known choice who attrs Allow = Allows known choice who attrs
Answers known choice who attrs Forbid = Allows known choice who attrs → ⊥

-- caches at these places could give the decision
abbrev pub IsPossible : Known → Places → User → RequestAttrs → Decision → Type 0
IsPossible known places who attrs decision = (choice : Choice) × IsChoice known places choice × Answers known choice who attrs decision

pub record AreWithin (low high : ℕ) (places : Places) : Type 0 where
  pub roles_from : low ≤ places.roles
  pub roles_upto : places.roles ≤ high
  pub cluster_roles_from : low ≤ places.cluster_roles
  pub cluster_roles_upto : places.cluster_roles ≤ high
  pub bindings_from : low ≤ places.bindings
  pub bindings_upto : places.bindings ≤ high
  pub cluster_bindings_from : low ≤ places.cluster_bindings
  pub cluster_bindings_upto : places.cluster_bindings ≤ high

-- the decision could be given by caches within the range
pub record IsDecidedAt (known : Known) (low high : ℕ) (who : User) (attrs : RequestAttrs) (decision : Decision) (places : Places) : Type 0 where
  pub within : AreWithin low high places
  pub possible : IsPossible known places who attrs decision
