-- An object with a member put in or taken out.
use Rattle.std.specs.Prelude.{ℕ, List}
use Rattle.std.specs.Ordering.{nat_cmp, match_ordering}
use Rattle.std.specs.Cmp.Lexicographic.{slice_cmp}
use Rattle.base_types.specs.Meaning.{Meaning, Fields, no_fields, field}

-- the members with this value at this name: in place of the value there, or as a new member
abbrev pub put : List ℕ → Meaning → Fields → Fields
put name t no_fields = field name t no_fields
put name t (field k u ms) = match_ordering (slice_cmp nat_cmp name k) (field name t (field k u ms)) (field name t ms) (field k u (put name t ms))
