-- What is kept of each key's recorded writes, while it is gathered.
use Rattle.std.specs.Prelude.{◌≡◌, ◌≤◌, ℕ, ◌⊎◌, true, Option, List, Any, Contains}
use Rattle.std.specs.BTreeMap.{BTreeMap, get}
use Rattle.std.specs.Option.{option_map}
use Rattle.std.specs.Ordering.{is_eq}
use Rattle.std.specs.declared.cmp.Ordering.{Ordering}
use Rattle.base_types.specs.declared.kubernetes.key.ObjectKey.{ObjectKey}
use Rattle.clouds.specs.declared.recorded.Recorded.{Recorded}
use Rattle.clouds.specs.declared.span.OpaqueSpan.{OpaqueSpan}
use Rattle.clouds.specs.FirstClouded.{SomeFirst}
use Rattle.clouds.specs.Hiding.{HidesKey}
use Rattle.clouds.specs.Items.{items_of}
use Rattle.clouds.specs.Kept.{key_order}
use Rattle.clouds.specs.Latest.{SomeBetween, last_place}

abbrev pub revisions_in : Option Recorded → List ℕ
revisions_in recorded = items_of (option_map (λ r. r.revisions) recorded)

abbrev pub firsts_in : Option Recorded → List ℕ
firsts_in recorded = items_of (option_map (λ r. r.first_clouded) recorded)

-- of one key, none where there is no entry
abbrev pub revisions_at : BTreeMap ObjectKey Recorded → ObjectKey → List ℕ
revisions_at recorded key = revisions_in (get key_order recorded key)

abbrev pub firsts_at : BTreeMap ObjectKey Recorded → ObjectKey → List ℕ
firsts_at recorded key = firsts_in (get key_order recorded key)

-- one item more, under this key
pub record Adds {K X : Type 0} (order : K → K → Ordering) (old new : K → List X) (key : K) (item : X) : Type 0 where
  pub kept : (k : K) (x : X) → Contains (old k) x → Contains (new k) x
  pub added : Contains (new key) item
  pub only : (k : K) (x : X) → Contains (new k) x → Contains (old k) x ⊎ ((is_eq (order key k) ≡ true) × (x ≡ item))

-- each key has the same as before
abbrev pub AreSame : (ObjectKey → List ℕ) → (ObjectKey → List ℕ) → Type 0
AreSame old new = (key : ObjectKey) → new key ≡ old key

-- the key's first hidden place at or behind the revision, if it comes before the next one, and else nothing
pub record AddsFirst (spans : List OpaqueSpan) (revisions : List ℕ) (old new : ObjectKey → List ℕ) (key : ObjectKey) (revision : ℕ) : Type 0 where
  pub kept : (k : ObjectKey) (place : ℕ) → Contains (old k) place → Contains (new k) place
  pub only : (k : ObjectKey) (place : ℕ) → Contains (new k) place → Contains (old k) place ⊎ ((k ≡ key) × Any (HidesKey revisions key place) spans)
  pub found : (place : ℕ) → revision ≤ place → place ≤ last_place → Any (HidesKey revisions key place) spans
      → SomeFirst (new key) revision place ⊎ SomeBetween revisions revision place
