-- Where an unrecorded write may have changed an object.
use Rattle.std.specs.Prelude.{◌≡◌, ◌<◌, ℕ, List, Contains}
use Rattle.base_types.specs.declared.kubernetes.key.ObjectKey.{ObjectKey}

-- An unrecorded write happened behind `low` and up to `high`, and may have changed the key's object. It may have happened by
-- this place, and no version of the key behind the write's window shows the object again.
pub record IsHidden (V : Type 0) (key_of : V → ObjectKey) (revision_of : V → ℕ) (versions : List V) (may_change : Type 0) (low high : ℕ) (key : ObjectKey) (place : ℕ) : Type 0 where
  pub hides : may_change
  pub begun : low < place
  pub unseen : (v : V) → Contains versions v → key_of v ≡ key → high < revision_of v → place < revision_of v
