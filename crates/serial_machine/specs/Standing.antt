-- The least of the codes that something has.
use Rattle.std.specs.Prelude.{◌≤◌, Option, Some, None}
use Rattle.base_types.specs.Reasons.{code_number}
use Rattle.base_types.specs.declared.verdict.claim.Reason.{Reason}

-- the least code that it has, or none where it has none
abbrev pub IsLeastCode : (Reason → Type 0) → Option Reason → Type 0
IsLeastCode Has None = (code : Reason) → Has code → ⊥
IsLeastCode Has (Some code) = Has code × ((other : Reason) → Has other → code_number code ≤ code_number other)
