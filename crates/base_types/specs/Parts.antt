-- What a tree is or holds, one level down.
use Rattle.std.specs.Prelude.{ℕ, ℤ, Bool, true, false, List, Option, Some, None, bytes_eq, if◌then◌else◌}
use Rattle.base_types.specs.Meaning.{Meaning, null, flag, whole, words, items, members, Fields, no_fields, field, kids_list, fields_list}

-- the value of the member of this name
abbrev pub lookup : List ℕ → Fields → Option Meaning
lookup name no_fields = None
lookup name (field k t ms) = if bytes_eq k name then Some t else lookup name ms

abbrev pub member_of : List ℕ → Meaning → Option Meaning
member_of name null = None
member_of name (flag b) = None
member_of name (whole z) = None
member_of name (words s) = None
member_of name (items ts) = None
member_of name (members ms) = lookup name ms

abbrev pub is_null : Meaning → Bool
is_null null = true
is_null (flag b) = false
is_null (whole z) = false
is_null (words s) = false
is_null (items ts) = false
is_null (members ms) = false

abbrev pub flag_of : Meaning → Option Bool
flag_of null = None
flag_of (flag b) = Some b
flag_of (whole z) = None
flag_of (words s) = None
flag_of (items ts) = None
flag_of (members ms) = None

abbrev pub whole_of : Meaning → Option ℤ
whole_of null = None
whole_of (flag b) = None
whole_of (whole z) = Some z
whole_of (words s) = None
whole_of (items ts) = None
whole_of (members ms) = None

abbrev pub text_of : Meaning → Option (List ℕ)
text_of null = None
text_of (flag b) = None
text_of (whole z) = None
text_of (words s) = Some s
text_of (items ts) = None
text_of (members ms) = None

abbrev pub items_of : Meaning → Option (List Meaning)
items_of null = None
items_of (flag b) = None
items_of (whole z) = None
items_of (words s) = None
items_of (items ts) = Some (kids_list ts)
items_of (members ms) = None

abbrev pub members_of : Meaning → Option (List (List ℕ × Meaning))
members_of null = None
members_of (flag b) = None
members_of (whole z) = None
members_of (words s) = None
members_of (items ts) = None
members_of (members ms) = Some (fields_list ms)
