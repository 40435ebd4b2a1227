-- Whether something is right, and else the least code that tells why it isn't.
use Rattle.std.specs.Prelude.{◌≤◌, Option, Some, None, nat_le, if◌then◌else◌}
use Rattle.base_types.specs.Reasons.{code_number}
use Rattle.base_types.specs.declared.verdict.claim.Reason.{Reason}

-- the lesser of two codes, where there are some
abbrev pub lesser : Option Reason → Option Reason → Option Reason
lesser None other = other
lesser (Some code) None = Some code
lesser (Some code) (Some other) = if nat_le (code_number code) (code_number other) then Some code else Some other

-- it is right and has no code, or this is the least code that it has
abbrev pub IsVerdict : Type 0 → (Reason → Type 0) → Option Reason → Type 0
IsVerdict Right Has None = Right × ((code : Reason) → Has code → ⊥)
IsVerdict Right Has (Some code) = Has code × ((other : Reason) → Has other → code_number code ≤ code_number other)
