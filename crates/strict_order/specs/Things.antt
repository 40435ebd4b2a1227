-- When one thing comes before another, and when two of them cross.
use Rattle.std.specs.Prelude.{◌≡◌, ◌<◌, ◌≤◌, ◌<ℤ◌, ◌⊎◌}
use Rattle.strict_order.specs.declared.thing.Thing.{Thing}

-- each number that a may have is below each one that b may have
abbrev pub ComesBefore : Thing → Thing → Type 0
ComesBefore a b = a.greatest < b.least

-- by their numbers a comes before b, and by their moments only after it
abbrev pub Crosses : Thing → Thing → Type 0
Crosses a b = ComesBefore a b × (b.hi.0 <ℤ a.lo.0)

-- a isn't judged after b: events are judged by their last moments, and then by their lines
abbrev pub IsJudgedNoLater : Thing → Thing → Type 0
IsJudgedNoLater a b = (a.hi.0 <ℤ b.hi.0) ⊎ ((a.hi.0 ≡ b.hi.0) × (a.line ≤ b.line))
