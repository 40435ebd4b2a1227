-- A choice of one place for each removal of a log, and the bounds that it meets.
use Rattle.std.specs.Prelude.{ℕ, ◌≤◌, List, All, slice_index}
use Rattle.std.specs.List.{AllZip}
use Rattle.base_types.specs.declared.verdict.claim.Bound.{Bound}
use Rattle.base_types.specs.declared.verdict.claim.Range.{Range}

-- a range isn't empty
abbrev pub HasPlace : Range → Type 0
HasPlace range = range.low ≤ range.high

abbrev pub HavePlaces : List Range → Type 0
HavePlaces ranges = All HasPlace ranges

-- a place that a removal may have
abbrev pub IsPlaceOf : Range → ℕ → Type 0
IsPlaceOf range place = (range.low ≤ place) × (place ≤ range.high)

-- one place for each range, in the order of the ranges
abbrev pub IsChoice : List Range → List ℕ → Type 0
IsChoice ranges choice = AllZip IsPlaceOf ranges choice

-- the choice gives the bound's range a place within the bound
abbrev pub Meets : List ℕ → Bound → Type 0
Meets choice bound = (bound.low ≤ slice_index choice bound.range) × (slice_index choice bound.range ≤ bound.high)

abbrev pub MeetsAll : List ℕ → List Bound → Type 0
MeetsAll choice bounds = All (Meets choice) bounds
