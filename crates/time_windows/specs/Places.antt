-- The places of a window: the greatest revision that had ended, and the place before the least that hadn't begun.
use Rattle.std.specs.Prelude.{◌≡◌, ℕ, ◌+◌, ◌-◌, ◌^◌, ◌<◌, ◌≤◌, ℤ, ◌<ℤ◌, ◌⊎◌, List, Any}
use Rattle.time_windows.specs.declared.span.Span.{Span}

-- the write of this revision had ended before the moment
abbrev pub EndedBefore : List Span → ℤ → ℕ → Type 0
EndedBefore spans at revision = Any (λ span. (span.revision ≡ revision) × (span.hi.0 <ℤ at)) spans

-- the write of this revision had not begun at the moment
abbrev pub BeginsAfter : List Span → ℤ → ℕ → Type 0
BeginsAfter spans at revision = Any (λ span. (span.revision ≡ revision) × (at <ℤ span.lo.0)) spans

-- the greatest revision that had ended before the moment, or the start where none had
pub record IsLowest (start : ℕ) (spans : List Span) (at : ℤ) (place : ℕ) : Type 0 where
  pub reached : (place ≡ start) ⊎ EndedBefore spans at place
  pub from_start : start ≤ place
  pub greatest : (revision : ℕ) → EndedBefore spans at revision → revision ≤ place

-- the place before the least revision that had not begun at the moment, or the last place of all
pub record IsHighest (spans : List Span) (at : ℤ) (place : ℕ) : Type 0 where
  pub reached : (place ≡ 2 ^ 64 - 1) ⊎ BeginsAfter spans at (place + 1)
  pub least : (revision : ℕ) → BeginsAfter spans at revision → place < revision
