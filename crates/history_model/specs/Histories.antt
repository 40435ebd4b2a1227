-- What is known of a cluster: the setup, the log, and what is found of them.
use Rattle.std.specs.Prelude.{◌≡◌, ℕ, ℤ, Bool, List, Option, Some, map, slice_get}
use Rattle.base_types.specs.declared.verdict.claim.Range.{Range}
use Rattle.base_types.specs.declared.kubernetes.key.ObjectKey.{ObjectKey}
use Rattle.base_types.specs.declared.verdict.placed.Places.{Places}
use Rattle.history_model.specs.Events.{Text, Item, Event}

-- between these moments the revision was written
pub record Span : Type 0 where
  pub revision : ℕ
  pub lo : ℤ
  pub hi : ℤ

-- who wrote a version
pub data Maker : Type 0 where
  Snapshot : Maker
  ByEvent : (number : ℕ) → Maker
  -- an unrecorded write
  Unknown : Maker

-- one object from one write of it to the next
pub record Version : Type 0 where
  pub key : ObjectKey
  pub revision : ℕ
  pub uid : Text
  pub tree : ℕ
  pub maker : Maker

-- The removal of an incarnation, whose last version has the revision `last`. Its place isn't recorded:
-- it is one of the range.
pub record Removal : Type 0 where
  pub key : ObjectKey
  pub uid : Text
  pub last : ℕ
  pub range : Range

pub record History : Type 0 where
  -- the setup: the revision of the snapshot, the lag of an authorizer's caches, and the snapshot
  pub start : ℕ
  pub lag : ℕ
  pub snapshot : List Item
  -- the log by line, and the checkpoints behind it
  pub events : List Event
  -- what is found of them: the order of judgement, and what was written
  pub order : List ℕ
  pub spans : List Span
  pub versions : List Version
  pub removals : List Removal
  -- Tests into which no law looks. Is the event's answer what was asked of this tree, or of none?
  pub body : (event : ℕ) → Option ℕ → Bool
  -- does the list's selector take the tree?
  pub listable : (event tree : ℕ) → Bool
  -- could the event's decision be given by caches at these places?
  pub decides : (event : ℕ) → Places → Bool

-- the event of this number
abbrev pub IsEvent : History → ℕ → Event → Type 0
IsEvent h number event = slice_get h.events number ≡ Some event

abbrev pub ranges : History → List Range
ranges h = map (λ removal. removal.range) h.removals
