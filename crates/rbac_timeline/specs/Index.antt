-- The bindings that name a subject.
use Rattle.std.specs.Prelude.{◌≡◌, ◌↔◌, ◌⊎◌, List, AllPairs, Contains}
use Rattle.std.specs.declared.cmp.Ordering.TheVariants.{Less}
use Rattle.base_types.specs.declared.kubernetes.key.ObjectKey.{ObjectKey}
use Rattle.clouds.specs.Kept.{key_order}
use Rattle.rbac_rules.specs.declared.binding.Binding.{Binding}
use Rattle.rbac_rules.specs.declared.binding.Subject.{Subject}
use Rattle.rbac_timeline.specs.declared.version.RbacVersion.{RbacVersion}
use Rattle.rbac_timeline.specs.declared.kind.Kind.TheVariants.{RoleBinding, ClusterRoleBinding}
use Rattle.rbac_timeline.specs.Kinds.{IsBindingOf, IsKeyOf}

-- each key is before those behind it
abbrev pub AreRising : List ObjectKey → Type 0
AreRising keys = AllPairs (λ a b. key_order a b ≡ Less) keys

-- a version of the binding names the subject; one that can't be read names none
pub record Names (versions : List RbacVersion) (subject : Subject) (key : ObjectKey) : Type 0 where
  pub version : RbacVersion
  pub known : Contains versions version
  pub of_key : version.key ≡ key
  pub of_kind : IsKeyOf RoleBinding key ⊎ IsKeyOf ClusterRoleBinding key
  pub binding : Binding
  pub readable : IsBindingOf key version.content binding
  pub named : Contains binding.subjects subject

-- the keys of these bindings, in order, each once
pub record AreBindingsOf (versions : List RbacVersion) (subject : Subject) (keys : List ObjectKey) : Type 0 where
  pub rising : AreRising keys
  pub exact : (key : ObjectKey) → Contains keys key ↔ Names versions subject key
