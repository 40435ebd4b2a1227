-- What the forms of a setup are made of.
use Rattle.std.specs.Prelude.{ℕ, Bool, false, List, Option, Some, None, bytes_eq}
use Rattle.std.specs.List.{list_any, list_all}
use Rattle.base_types.specs.Meaning.{Meaning}
use Rattle.base_types.specs.Parts.{members_of}

-- the object has no member but those of these names
abbrev pub has_only : List (List ℕ) → List (List ℕ × Meaning) → Bool
has_only known members = list_all (λ member. list_any (bytes_eq member.0) known) members

abbrev pub are_known : List (List ℕ) → Option (List (List ℕ × Meaning)) → Bool
are_known known None = false
are_known known (Some members) = has_only known members

-- an object with no member but those of these names
abbrev pub is_form : List (List ℕ) → Meaning → Bool
is_form known tree = are_known known (members_of tree)
