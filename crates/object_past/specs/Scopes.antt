-- Which keys a list is about.
use Rattle.std.specs.Prelude.{◌≡◌, ℕ, List, [], ◌∷◌, AllPairs}
use Rattle.std.specs.Ordering.{ordering_then}
use Rattle.std.specs.declared.cmp.Ordering.{Ordering}
use Rattle.std.specs.declared.cmp.Ordering.TheVariants.{Equal, Less}
use Rattle.base_types.specs.declared.kubernetes.key.ObjectKey.{ObjectKey}
use Rattle.clouds.specs.Kept.{key_order, text_order}
use Rattle.history_model.specs.Right.{InNamespace}

-- keys by their four parts, each once
abbrev pub AreInOrder : List ObjectKey → Type 0
AreInOrder keys = AllPairs (λ a b. key_order a b ≡ Less) keys

-- the keys that a list of this group, resource and namespace is about; the empty namespace stands for all
pub record IsInScope (group resource namespace : List ℕ) (key : ObjectKey) : Type 0 where
  pub of_group : key.group ≡ group
  pub of_resource : key.resource ≡ resource
  pub of_namespace : InNamespace namespace key.namespace

abbrev pub namespace_order : List ℕ → List ℕ → Ordering
namespace_order [] namespace = Equal
namespace_order (byte ∷ bytes) namespace = text_order namespace (byte ∷ bytes)

-- where a key stands to those of the scope
abbrev pub scope_order : (group resource namespace : List ℕ) → ObjectKey → Ordering
scope_order group resource namespace key =
    ordering_then (text_order key.group group) (ordering_then (text_order key.resource resource) (namespace_order namespace key.namespace))
