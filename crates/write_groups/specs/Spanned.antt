-- Between which moments a group's revision was written.
use Rattle.std.specs.Prelude.{◌≡◌, ◌||◌, ◌==◌, not, ◌<◌, ◌⊎◌, ℕ, Bool, true, false, List, Option, Some, None, if◌then◌else◌, int_lt, slice_get, option_map, fold, AllPairs, Contains}
use Rattle.std.specs.List.{list_any}
use Rattle.base_types.specs.declared.kubernetes.revision.Moment.{Moment}
use Rattle.time_windows.specs.declared.span.Span.{Span}
use Rattle.write_groups.specs.declared.event.LogEvent.{LogEvent}
use Rattle.write_groups.specs.declared.event.Shown.{Shown}
use Rattle.write_groups.specs.declared.event.Shown.TheVariants.{Made, Removed, Opaque, Saw, SawNone, SawSome, SawOther, Listed, Free, Aside}
use Rattle.write_groups.specs.declared.groups.Group.{Group}
use Rattle.write_groups.specs.declared.hidden.Hiding.{Hiding}
use Rattle.write_groups.specs.Hiding.{IsFirstSince}

abbrev pub earlier_moment : Option Moment → Option Moment → Option Moment
earlier_moment None b = b
earlier_moment (Some a) None = Some a
earlier_moment (Some a) (Some b) = Some (if int_lt b.0 a.0 then b else a)

abbrev pub end_at : List LogEvent → ℕ → Option Moment
end_at events number = option_map (λ event. event.hi) (slice_get events number)

abbrev pub start_at : List LogEvent → ℕ → Option Moment
start_at events number = option_map (λ event. event.lo) (slice_get events number)

-- the earliest of the moments that the numbers have
abbrev pub least_by : (ℕ → Option Moment) → List ℕ → Option Moment
least_by at numbers = fold (λ first number. earlier_moment first (at number)) None numbers

-- the first end of the events of these numbers, and their first start
abbrev pub first_end : List LogEvent → List ℕ → Option Moment
first_end events numbers = least_by (end_at events) numbers

abbrev pub first_start : List LogEvent → List ℕ → Option Moment
first_start events numbers = least_by (start_at events) numbers

abbrev pub creates : Shown → Bool
creates (Made item created) = created
creates (Removed key uid) = false
creates (Opaque cover) = false
creates (Saw item) = false
creates (SawNone key) = false
creates (SawSome key) = false
creates (SawOther key) = false
creates (Listed listing) = false
creates Free = false
creates Aside = false

abbrev pub is_other : ℕ → Option ℕ → Bool
is_other revision None = false
is_other revision (Some wanted) = not (wanted == revision)

-- the write created what it was answered with, or its condition was another revision
abbrev pub made_surely : ℕ → LogEvent → Bool
made_surely revision event = creates event.answer || is_other revision event.preconditions.revision

abbrev pub made_surely_if : ℕ → Option LogEvent → Bool
made_surely_if revision None = false
made_surely_if revision (Some event) = made_surely revision event

abbrev pub made_surely_at : List LogEvent → ℕ → ℕ → Bool
made_surely_at events revision number = made_surely_if revision (slice_get events number)

-- a member surely made the revision
abbrev pub is_sure : List LogEvent → Group → Bool
is_sure events group = list_any (made_surely_at events group.revision) group.members

abbrev pub or_earlier : Moment → Option Moment → Moment
or_earlier recorded None = recorded
or_earlier recorded (Some since) = if int_lt since.0 recorded.0 then since else recorded

-- the members' first start; where no member is sure, unrecorded writes of the key may have begun before
abbrev pub IsBeginningOf : List LogEvent → List Hiding → Group → Moment → Moment → Type 0
IsBeginningOf events hidings group recorded lo = ((is_sure events group ≡ true) × (lo ≡ recorded))
    ⊎ ((is_sure events group ≡ false) × ((since : Option Moment) × IsFirstSince hidings group.key since × (lo ≡ or_earlier recorded since)))

-- the members' first end, and when the group may have begun
pub record IsSpan (events : List LogEvent) (hidings : List Hiding) (group : Group) (span : Span) : Type 0 where
  pub of_revision : span.revision ≡ group.revision
  pub end : first_end events group.members ≡ Some span.hi
  pub recorded : Moment
  pub first : first_start events group.members ≡ Some recorded
  pub beginning : IsBeginningOf events hidings group recorded span.lo

abbrev pub IsSpanIn : List LogEvent → List Hiding → Group → Option Span → Type 0
IsSpanIn events hidings group None = (first_end events group.members ≡ None) ⊎ (first_start events group.members ≡ None)
IsSpanIn events hidings group (Some span) = IsSpan events hidings group span

-- the spans of some groups
pub record AreSpansOf (events : List LogEvent) (hidings : List Hiding) (groups : List Group) (spans : List Span) : Type 0 where
  pub sound : (span : Span) → Contains spans span → (group : Group) × Contains groups group × IsSpan events hidings group span
  pub full : (group : Group) → Contains groups group → IsSpanIn events hidings group None ⊎ ((span : Span) × Contains spans span × IsSpan events hidings group span)
  pub rising : AllPairs (λ a b. a.revision < b.revision) spans
