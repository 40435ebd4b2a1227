-- The stored form of an object: without root `apiVersion`, root `kind` and `/metadata/managedFields`.
use Rattle.std.specs.Prelude.{ℕ, Bool, not, List, codes, bytes_eq, if◌then◌else◌}
use Rattle.base_types.specs.Meaning.{Meaning, null, flag, whole, words, items, members, Fields, no_fields, field}

-- whether a member has another name
abbrev pub is_other : List ℕ → List ℕ × Meaning → Bool
is_other name m = not (bytes_eq m.0 name)

abbrev pub fields_without : List ℕ → Fields → Fields
fields_without name no_fields = no_fields
fields_without name (field k t ms) = if bytes_eq k name then fields_without name ms else field k t (fields_without name ms)

-- the tree without the member of this name
abbrev pub without : List ℕ → Meaning → Meaning
without name null = null
without name (flag b) = flag b
without name (whole z) = whole z
without name (words s) = words s
without name (items ts) = items ts
without name (members ms) = members (fields_without name ms)

abbrev pub fields_with : List ℕ → (Meaning → Meaning) → Fields → Fields
fields_with name change no_fields = no_fields
fields_with name change (field k t ms) = field k (if bytes_eq k name then change t else t) (fields_with name change ms)

-- the tree with the value of the member of this name changed
abbrev pub with : List ℕ → (Meaning → Meaning) → Meaning → Meaning
with name change null = null
with name change (flag b) = flag b
with name change (whole z) = whole z
with name change (words s) = words s
with name change (items ts) = items ts
with name change (members ms) = members (fields_with name change ms)

abbrev pub stored : Meaning → Meaning
stored t = with (codes "metadata") (without (codes "managedFields")) (without (codes "kind") (without (codes "apiVersion") t))
