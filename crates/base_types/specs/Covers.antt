-- Which objects an unrecorded write may have changed, as far as its request tells.
use Rattle.std.specs.Prelude.{◌≡◌, ℕ, ⊤, List, ◌++◌, Some, MatchOption}
use Rattle.base_types.specs.declared.kubernetes.key.ObjectKey.{ObjectKey}
use Rattle.base_types.specs.declared.kubernetes.key.Cover.{Cover}
use Rattle.base_types.specs.declared.kubernetes.key.CoverName.{CoverName}
use Rattle.base_types.specs.declared.kubernetes.key.CoverName.TheVariants.{Exact, Prefix, Any}

-- the name that is given, each name with a prefix, or any
abbrev pub TakesName : CoverName → List ℕ → Type 0
TakesName (Exact given) name = name ≡ given
TakesName (Prefix front) name = (rest : List ℕ) × (name ≡ front ++ rest)
TakesName Any name = ⊤

-- the key is one of those that an unrecorded write may have changed
pub record Covers (cover : Cover) (key : ObjectKey) : Type 0 where
  pub group : key.group ≡ cover.group
  pub resource : key.resource ≡ cover.resource
  pub namespace : MatchOption cover.namespace ⊤ (λ namespace. key.namespace ≡ namespace)
  pub name : TakesName cover.name key.name

-- the cover has an exact name and a namespace that isn't any, which may be empty, and the key has both
pub record NamesExactly (cover : Cover) (key : ObjectKey) : Type 0 where
  pub group : key.group ≡ cover.group
  pub resource : key.resource ≡ cover.resource
  pub namespace : cover.namespace ≡ Some key.namespace
  pub name : cover.name ≡ Exact key.name
