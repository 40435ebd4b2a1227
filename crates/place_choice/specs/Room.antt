-- The ranges that bounds leave to the places of removals.
use Rattle.std.specs.Prelude.{ℕ, List, ◌↔◌}
use Rattle.base_types.specs.declared.verdict.claim.Bound.{Bound}
use Rattle.base_types.specs.declared.verdict.claim.Range.{Range}
use Rattle.base_types.specs.Choices.{IsChoice, MeetsAll}

-- the ranges left have just the choices of the old ones that meet the bounds
abbrev pub Narrows : List Range → List Range → List Bound → Type 0
Narrows ranges left bounds =
    (choice : List ℕ) → IsChoice left choice ↔ (IsChoice ranges choice × MeetsAll choice bounds)
