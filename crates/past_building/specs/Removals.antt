-- The first removal of each uid of each key (Kubernetes "Object Names and IDs", UIDs).
use Rattle.std.specs.Prelude.{◌≡◌, ◌&&◌, ℕ, Bool, false, List, Option, Some, None, if◌then◌else◌, bytes_eq, option_and_then, slice_get, find}
use Rattle.std.specs.BTreeMap as tree
use Rattle.std.specs.HashMap as table
use Rattle.base_types.specs.declared.kubernetes.key.ObjectKey.{ObjectKey}
use Rattle.clouds.specs.Kept.{text_order}
use Rattle.base_types.specs.Keys.{same_key}
use Rattle.past_building.specs.Keyed.{RemovalNumbers, key_eq}
use Rattle.write_groups.specs.declared.event.LogEvent.{LogEvent}
use Rattle.write_groups.specs.declared.event.Shown.{Shown}
use Rattle.write_groups.specs.declared.event.Shown.TheVariants.{Made, Removed, Opaque, Saw, SawNone, SawSome, SawOther, Listed, Free, Aside}

abbrev pub gone_in : Shown → Option (ObjectKey × List ℕ)
gone_in (Made item created) = None
gone_in (Removed key uid) = Some (key, uid)
gone_in (Opaque cover) = None
gone_in (Saw item) = None
gone_in (SawNone key) = None
gone_in (SawSome key) = None
gone_in (SawOther key) = None
gone_in (Listed listing) = None
gone_in Free = None
gone_in Aside = None

-- the key and the uid of the object that the event of this number removed
abbrev pub gone_at : List LogEvent → ℕ → Option (ObjectKey × List ℕ)
gone_at events number = option_and_then (λ event. gone_in event.answer) (slice_get events number)

abbrev pub is_gone : ObjectKey → List ℕ → Option (ObjectKey × List ℕ) → Bool
is_gone key uid None = false
is_gone key uid (Some gone) = same_key gone.0 key && bytes_eq gone.1 uid

-- the first of the numbers whose event removed the uid of the key
abbrev pub first_removal : List LogEvent → List ℕ → ObjectKey → List ℕ → Option ℕ
first_removal events numbers key uid = find (λ number. is_gone key uid (gone_at events number)) numbers

-- the number that is kept for the uid of the key
abbrev pub found_at : RemovalNumbers → ObjectKey → List ℕ → Option ℕ
found_at removed key uid = option_and_then (λ uids. tree.get text_order uids uid) (table.get key_eq removed key)

abbrev pub or_first : Option ℕ → Option ℕ → Option ℕ
or_first None other = other
or_first (Some number) other = Some number

abbrev pub number_if : ObjectKey → List ℕ → ℕ → ObjectKey → List ℕ → Option ℕ
number_if key uid number other_key other_uid = if same_key key other_key && bytes_eq uid other_uid then Some number else None

abbrev pub AreFirstRemovals : List LogEvent → List ℕ → RemovalNumbers → Type 0
AreFirstRemovals events order removed = (key : ObjectKey) (uid : List ℕ) → found_at removed key uid ≡ first_removal events order key uid
