-- What settling comes to: the least choice, or the first event that breaks.
use Rattle.std.specs.Prelude.{ℕ, List}
use Rattle.base_types.specs.declared.verdict.claim.Claim.{Claim}
use Rattle.base_types.specs.declared.verdict.claim.Range.{Range}
use Rattle.base_types.specs.Settlement.{IsLeastChoice, BreaksFirst}
use Rattle.place_choice.specs.declared.settled.Settled.{Settled}
use Rattle.place_choice.specs.declared.settled.Settled.TheVariants.{Fits, Breaks}

-- the least choice that explains all events, or the first event with which no choice does
abbrev pub IsSettled : List Range → List ℕ → List Claim → Settled → Type 0
IsSettled ranges order claims (Fits choice) = IsLeastChoice ranges claims choice
IsSettled ranges order claims (Breaks event reason) = BreaksFirst ranges claims order event reason

abbrev pub IsFits : Settled → Type 0
IsFits (Fits choice) = Unit {0}
IsFits (Breaks event reason) = ⊥
