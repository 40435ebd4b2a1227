-- The count of faults of a desk or a sink, and that a call fails only where it rose.
use Rattle.std.specs.Prelude.{ℕ, ◌+◌, ◌-◌, ◌^◌, ◌≤◌, min, Result, OnErr}

-- a count of faults rose, or stands at its last value
abbrev pub Rose : ℕ → ℕ → Type 0
Rose before now = min (before + 1) (2 ^ 64 - 1) ≤ now

-- a count of faults never falls, and where a call fails it rose
pub record HasCause {T : Type 0} {E : Type 0} (before now : ℕ) (result : Result T E) : Type 0 where
  pub counted : before ≤ now
  pub failed : OnErr result (Rose before now)
