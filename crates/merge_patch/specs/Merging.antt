-- JSON Merge Patch: the function `MergePatch(Target, Patch)` of RFC 7386, now RFC 7396, section 2.
use Rattle.std.specs.Prelude.{ℕ, List, Option, Some, None, if◌then◌else◌}
use Rattle.base_types.specs.Edits.{put}
use Rattle.base_types.specs.Meaning.{Meaning, null, flag, whole, words, items, members, Fields, no_fields, field}
use Rattle.base_types.specs.Parts.{lookup, is_null}
use Rattle.base_types.specs.Stored.{fields_without}

-- the target's members; a target that isn't there, or is no object, counts as an empty object
abbrev pub object_of : Option Meaning → Fields
object_of None = no_fields
object_of (Some null) = no_fields
object_of (Some (flag b)) = no_fields
object_of (Some (whole z)) = no_fields
object_of (Some (words s)) = no_fields
object_of (Some (items ts)) = no_fields
object_of (Some (members ms)) = ms

abbrev mutual
  -- a patch that is no object replaces the target
  pub merged : Option Meaning → Meaning → Meaning
  merged target null = null
  merged target (flag b) = flag b
  merged target (whole z) = whole z
  merged target (words s) = words s
  merged target (items ts) = items ts
  merged target (members ms) = members (merged_fields (object_of target) ms)

  -- each name and value of the patch in turn: null removes the member, any other value is merged into it
  pub merged_fields : Fields → Fields → Fields
  merged_fields target no_fields = target
  merged_fields target (field k v ms) = merged_fields (if is_null v then fields_without k target else put k (merged (lookup k target) v) target) ms

-- the members after one name and value of the patch
abbrev pub changed : List ℕ × Meaning → Fields → Fields
changed change target = if is_null change.1 then fields_without change.0 target else put change.0 (merged (lookup change.0 target) change.1) target
