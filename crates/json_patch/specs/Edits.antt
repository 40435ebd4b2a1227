-- A change under the last token of a target location, and what it does to the size of a document.
use Rattle.std.specs.Prelude.{◌≡◌, ℕ, ◌+◌, ◌≤◌, max, List, [], ◌∷◌, Option, Some, None, IsSome, Result, Ok, Err}
use Rattle.base_types.specs.Meaning.{Meaning, null}
use Rattle.json_patch.specs.declared.edit.Edit.{Edit}
use Rattle.json_patch.specs.declared.edit.Edit.TheVariants.{Add, Remove, Replace}
use Rattle.json_patch.specs.declared.fault.ApplyCause.{ApplyCause}
use Rattle.json_patch.specs.declared.fault.ApplyCause.TheVariants.{NoValue, NoParent}
use Rattle.json_patch.specs.declared.edit.Refusal.{Refusal}
use Rattle.json_patch.specs.declared.edit.Refusal.TheVariants.{Cause, OutOfMemory}
use Rattle.json_patch.specs.Effects.{at_parent, added_in, removed_in, replaced_in}
use Rattle.json_patch.specs.Limits.{depth, values}

abbrev pub change_of : Edit → List ℕ → Meaning → Result Meaning ApplyCause
change_of (Add v) = added_in v
change_of Remove = removed_in
change_of (Replace v) = replaced_in v

-- the cause where the parent isn't there
abbrev pub missing_of : Edit → ApplyCause
missing_of (Add v) = NoParent
missing_of Remove = NoValue
missing_of (Replace v) = NoValue

abbrev pub edited : List ℕ → List (List ℕ) → Edit → Meaning → Result Meaning ApplyCause
edited first rest edit t = at_parent first rest (missing_of edit) (change_of edit) t

-- the cause is the one that the definition gives
abbrev pub RefusedBy : Result Meaning ApplyCause → Refusal → Type 0
RefusedBy made (Cause cause) = made ≡ Err cause
RefusedBy made OutOfMemory = Unit {0}

-- a value that was removed is the one that was there
abbrev pub IsTaken : Edit → Option Meaning → Option Meaning → Type 0
IsTaken (Add v) left there = Unit {0}
IsTaken Remove left there = (left ≡ there) × IsSome left
IsTaken (Replace v) left there = Unit {0}

-- how many values come, and how many leave
abbrev pub came_of : Edit → ℕ
came_of (Add v) = values v
came_of Remove = 0
came_of (Replace v) = values v

-- how many containers stand one inside another where a value comes below so many
abbrev pub deep_of : Edit → ℕ → ℕ
deep_of (Add v) level = depth v + level
deep_of Remove level = 0
deep_of (Replace v) level = depth v + level

abbrev pub went_of : Option Meaning → ℕ
went_of None = 0
went_of (Some v) = values v

-- the same edit with a value that has no depth
abbrev pub flat_of : Edit → Edit
flat_of (Add v) = Add null
flat_of Remove = Remove
flat_of (Replace v) = Replace null

-- a value that comes below so many containers is as deep as the document, unless something else is deeper
abbrev pub IsAsDeep : Edit → ℕ → Meaning → Meaning → Type 0
IsAsDeep (Add v) level old new = (level + depth v ≤ depth new) × (depth new ≤ max (depth old) (level + depth v))
IsAsDeep Remove level old new = depth new ≤ depth old
IsAsDeep (Replace v) level old new = (level + depth v ≤ depth new) × (depth new ≤ max (depth old) (level + depth v))

pub record IsEdited (edit : Edit) (level : ℕ) (old new : Meaning) (left : Option Meaning) : Type 0 where
  pub counted : values new + went_of left ≡ values old + came_of edit
  pub part : went_of left ≤ values old
  pub deep : IsAsDeep edit level old new

-- the whole document is what a pointer without tokens points to
abbrev pub edited_at : List (List ℕ) → Edit → Meaning → Result Meaning ApplyCause
edited_at [] (Add v) t = Ok v
edited_at [] Remove t = Err NoParent
edited_at [] (Replace v) t = Ok v
edited_at (first ∷ rest) edit t = edited first rest edit t
