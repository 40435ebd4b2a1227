-- Unrecorded writes, and when they may have begun.
use Rattle.std.specs.Prelude.{◌≡◌, ◌+◌, ◌≤ℤ◌, ℕ, List, [], ◌∷◌, Option, Some, None, length, filter_map, All, AllPairs, Any}
use Rattle.base_types.specs.Covers.{Covers}
use Rattle.base_types.specs.declared.kubernetes.key.ObjectKey.{ObjectKey}
use Rattle.base_types.specs.declared.kubernetes.revision.Moment.{Moment}
use Rattle.clouds.specs.Writes.{Writes}
use Rattle.clouds.specs.declared.span.OpaqueSpan.{OpaqueSpan}
use Rattle.write_groups.specs.declared.event.LogEvent.{LogEvent}
use Rattle.write_groups.specs.declared.event.Shown.{Shown}
use Rattle.write_groups.specs.declared.event.Shown.TheVariants.{Made, Removed, Opaque, Saw, SawNone, SawSome, SawOther, Listed, Free, Aside}
use Rattle.write_groups.specs.declared.hidden.Hiding.{Hiding}

abbrev pub hiding_if : Moment → Shown → Option Hiding
hiding_if since (Made item created) = None
hiding_if since (Removed key uid) = None
hiding_if since (Opaque cover) = Some (record { cover = cover; since = since })
hiding_if since (Saw item) = None
hiding_if since (SawNone key) = None
hiding_if since (SawSome key) = None
hiding_if since (SawOther key) = None
hiding_if since (Listed listing) = None
hiding_if since Free = None
hiding_if since Aside = None

-- the unrecorded write that an event stands for
abbrev pub hiding_at : LogEvent → Option Hiding
hiding_at event = hiding_if event.lo event.answer

-- the unrecorded writes of a log, by line
abbrev pub hidings_of : List LogEvent → List Hiding
hidings_of events = filter_map hiding_at events

-- the earliest first
abbrev pub IsSorted : List Hiding → Type 0
IsSorted hidings = AllPairs (λ a b. a.since.0 ≤ℤ b.since.0) hidings

abbrev pub numbered : ℕ → Hiding → OpaqueSpan
numbered number hiding = record { cover = hiding.cover; low = number; high = 0 }

-- each write under its number as a place
abbrev pub spans_from : ℕ → List Hiding → List OpaqueSpan
spans_from number [] = []
spans_from number (hiding ∷ hidings) = numbered number hiding ∷ spans_from (number + 1) hidings

abbrev pub hidings_in : List OpaqueSpan → List Moment → List Hiding
hidings_in [] begins = []
hidings_in (span ∷ spans) [] = []
hidings_in (span ∷ spans) (begin ∷ begins) = record { cover = span.cover; since = begin } ∷ hidings_in spans begins

-- what is kept: the writes' numbers are their places, which no revision ends
pub record AreNumbered (writes : Writes) (begins : List Moment) : Type 0 where
  pub spans : writes.spans ≡ spans_from 0 (hidings_in writes.spans begins)
  pub all : length begins ≡ length writes.spans
  pub revisions : writes.revisions ≡ []
  pub sorted : IsSorted (hidings_in writes.spans begins)

-- when the first of the writes that cover the key may have begun; none where none covers it
abbrev pub IsFirstSince : List Hiding → ObjectKey → Option Moment → Type 0
IsFirstSince hidings key None = All (λ hiding. Covers hiding.cover key → ⊥) hidings
IsFirstSince hidings key (Some at) = Any (λ hiding. Covers hiding.cover key × (hiding.since ≡ at)) hidings
    × All (λ hiding. Covers hiding.cover key → at.0 ≤ℤ hiding.since.0) hidings
