-- Keys among other keys.
use Rattle.std.specs.Prelude.{◌≡◌, ℕ, ◌<◌, ◌≤◌, Bool, List, length, map, not, slice_index_or}
use Rattle.std.specs.Borrow.{Bor}
use Rattle.std.specs.List.{filter, list_any}
use Rattle.std.specs.declared.cmp.Ordering.TheVariants.{Less}
use Rattle.base_types.specs.declared.kubernetes.key.ObjectKey.{ObjectKey}
use Rattle.base_types.specs.Keys.{same_key}
use Rattle.clouds.specs.Kept.{key_order}

-- the keys that references refer to
abbrev pub keys_at : List (Bor ObjectKey) → List ObjectKey
keys_at keys = map (λ key. key.now) keys

-- the key is one of these
abbrev pub is_one_of : List ObjectKey → ObjectKey → Bool
is_one_of keys key = list_any (λ other. same_key key other) keys

-- those of the keys that aren't among the others
abbrev pub without : (keys others : List ObjectKey) → List ObjectKey
without keys others = filter (λ key. not (is_one_of others key)) keys

-- the keys in front of the place are below this one
abbrev pub AreBelow : List ObjectKey → ObjectKey → ℕ → Type 0
AreBelow keys key place = (k : ℕ) (d : ObjectKey) → k < place → key_order (slice_index_or keys k d) key ≡ Less

-- the place of the first key that isn't below this one
pub record IsPlaceOf (keys : List ObjectKey) (key : ObjectKey) (place : ℕ) : Type 0 where
  pub within : place ≤ length keys
  pub below : AreBelow keys key place
  pub here : (d : ObjectKey) → place < length keys → key_order (slice_index_or keys place d) key ≡ Less → ⊥
