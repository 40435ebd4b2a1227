-- The numbers of the cluster's one sequence of writes, and the texts that spell them.
use Rattle.std.specs.Prelude.{ℕ, ◌<◌, ◌≤◌, ◌^◌, ◌-◌, Bool, ◌&&◌, List, Option, Some, None, nat_lt, nat_le, bytes_eq, decimal, if◌then◌else◌}
use Rattle.std.specs.Str.Parse.{digits_value}

-- the numbers of the cluster's one sequence; 0 and 2 ^ 64 - 1 are kept for "none" and "no end"
abbrev pub IsRevision : ℕ → Type 0
IsRevision n = (0 < n) × (n ≤ 2 ^ 64 - 2)

-- the number is one of the cluster's sequence, and this is its decimal text
abbrev pub spells_revision : List ℕ → ℕ → Bool
spells_revision text number = nat_lt 0 number && nat_le number (2 ^ 64 - 2) && bytes_eq text (decimal number)

-- the revision that a text spells: a decimal number from 1 to 2 ^ 64 - 2 without leading zeros
abbrev pub revision_of : List ℕ → Option ℕ
revision_of text = if spells_revision text (digits_value 10 text) then Some (digits_value 10 text) else None
