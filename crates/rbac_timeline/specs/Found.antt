-- What a search of some bindings finds of what all of them grant.
use Rattle.std.specs.Prelude.{◌≡◌, ◌≤◌, ℕ, List, Option, Some, None, Any, max}
use Rattle.std.specs.BTreeMap.{BTreeMap, get}
use Rattle.base_types.specs.declared.kubernetes.key.ObjectKey.{ObjectKey}
use Rattle.base_types.specs.declared.kubernetes.request.RequestAttrs.{RequestAttrs}
use Rattle.base_types.specs.declared.kubernetes.request.User.{User}
use Rattle.clouds.specs.FirstPlace.{IsFirstPlace}
use Rattle.clouds.specs.Kept.{key_order}
use Rattle.rbac_rules.specs.declared.binding.Binding.{Binding}
use Rattle.rbac_rules.specs.declared.binding.Subject.{Subject}
use Rattle.span_index.specs.Meeting.{Meets}
use Rattle.rbac_timeline.specs.declared.lasting.Until.{Until}
use Rattle.rbac_timeline.specs.declared.reigns.Reign.{Reign}
use Rattle.rbac_timeline.specs.declared.version.RbacVersion.{RbacVersion}
use Rattle.rbac_timeline.specs.declared.way.Way.{Way}
use Rattle.rbac_timeline.specs.Extents.{IsSubject, MayGrantByRole, bindings_in}
use Rattle.rbac_timeline.specs.Kept.{MayGrantByListed, MustGrantByListed}
use Rattle.rbac_timeline.specs.Kinds.{IsBindingOf, IsKeyOf, IsReached, role_key, subjects_of}
use Rattle.rbac_timeline.specs.Known.{Known}
use Rattle.rbac_timeline.specs.Lasting.{HoldsUntil}
use Rattle.rbac_timeline.specs.Reigns.{span_of}
use Rattle.rbac_timeline.specs.Searched.{IsPairUpTo}
use Rattle.rbac_timeline.specs.States.{MayBeThere}

-- until where something of all grants, or nothing of a part does
abbrev pub LastsFor : (ℕ → ℕ → Type 0) → Type 0 → ℕ → ℕ → ℕ → Option Until → Type 0
LastsFor all part first second high None = part → ⊥
LastsFor all part first second high (Some until) = HoldsUntil all first second high until

-- a pair of places of all, which is not behind any of a part
pub record IsLeastFor (all part : ℕ → ℕ → Type 0) (low high first second : ℕ) : Type 0 where
  pub first_from : low ≤ first
  pub first_upto : first ≤ high
  pub second_from : low ≤ second
  pub second_upto : second ≤ high
  pub here : all first second
  pub least : (a b : ℕ) → low ≤ a → a ≤ high → low ≤ b → b ≤ high → part a b → IsPairUpTo first second a b

abbrev pub FirstFor : (ℕ → ℕ → Type 0) → (ℕ → ℕ → Type 0) → ℕ → ℕ → Option (ℕ × ℕ) → Type 0
FirstFor all part low high None = (a b : ℕ) → low ≤ a → a ≤ high → low ≤ b → b ≤ high → part a b → ⊥
FirstFor all part low high (Some pair) = IsLeastFor all part low high pair.0 pair.1

-- a version names such a subject
abbrev pub NamesOne : (Subject → Type 0) → RbacVersion → Type 0
NamesOne names version = Any names (subjects_of version.key version.content)

-- a binding whose version that is there names such a subject grants for certain
pub record MustGrantNamed (known : Known) (names : Subject → Type 0) (way : Way) (role_place binding_place : ℕ) (who : User) (attrs : RequestAttrs) : Type 0 where
  pub version : RbacVersion
  pub there : MayBeThere known version.key binding_place version
  pub named : NamesOne names version
  pub must : MustGrantByListed known way role_place binding_place who attrs version.key

-- or may grant by what the version says
pub record MayGrantNamed (known : Known) (names : Subject → Type 0) (way : Way) (role_place binding_place : ℕ) (who : User) (attrs : RequestAttrs) : Type 0 where
  pub version : RbacVersion
  pub there : MayBeThere known version.key binding_place version
  pub named : NamesOne names version
  pub of_kind : IsKeyOf (bindings_in way) version.key
  pub reached : IsReached version.key attrs
  pub binding : Binding
  pub readable : IsBindingOf version.key version.content binding
  pub granted : IsSubject way version.key who binding × MayGrantByRole known (role_key version.key binding) role_place attrs

-- a binding of a reign that has the place grants for certain, or may
abbrev pub MustGrantReigning : Known → Way → ℕ → ℕ → User → RequestAttrs → List Reign → Type 0
MustGrantReigning known way role_place binding_place who attrs reigns =
    Any (λ reign. Meets binding_place binding_place (span_of reign) × MustGrantByListed known way role_place binding_place who attrs reign.key) reigns

abbrev pub MayGrantReigning : Known → Way → ℕ → ℕ → User → RequestAttrs → List Reign → Type 0
MayGrantReigning known way role_place binding_place who attrs reigns =
    Any (λ reign. Meets binding_place binding_place (span_of reign) × MayGrantByListed known way role_place binding_place who attrs reign.key) reigns

-- a binding may grant where its reign begins in the range, or the range in its reign
abbrev pub StartsReigning : Known → Way → ℕ → ℕ → User → RequestAttrs → List Reign → ℕ → ℕ → Type 0
StartsReigning known way low high who attrs reigns role_place binding_place =
    Any (λ reign. Meets low high (span_of reign) × ((binding_place ≡ max low reign.first) × MayGrantByListed known way role_place binding_place who attrs reign.key)) reigns

-- the places that are remembered of roles are the least at which they may grant
abbrev pub AreFirst : Known → RequestAttrs → ℕ → ℕ → BTreeMap ObjectKey (Option ℕ) → Type 0
AreFirst known attrs low high firsts = (role : ObjectKey) (place : Option ℕ) → get key_order firsts role ≡ Some place → IsFirstPlace (λ r. MayGrantByRole known role r attrs) low high place
