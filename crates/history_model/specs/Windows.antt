-- Which revisions an event may stand at, by the moments of the log.
use Rattle.std.specs.Prelude.{ℕ, ℤ, pos, ◌≤◌, ◌-◌, ◌^◌, ◌-ℤ◌, Bool, if◌then◌else◌, ◌&&◌, nat_le, int_lt, max, min, List, [], ◌∷◌}
use Rattle.history_model.specs.Events.{Event, Reading, MostRecent, AnyVersion, NotOlderThan, Exactly, Checkpoint}
use Rattle.history_model.specs.Histories.{History, Span}

-- the place behind all revisions
abbrev pub last_place : ℕ
last_place = 2 ^ 64 - 1

-- the greatest revision that was written before the moment, or the start
abbrev pub lowest_of : ℕ → List Span → ℤ → ℕ
lowest_of start [] at = start
lowest_of start (span ∷ spans) at = max (if int_lt span.hi at then span.revision else start) (lowest_of start spans at)

-- the place before the least revision that was written after the moment
abbrev pub highest_of : List Span → ℤ → ℕ
highest_of [] at = last_place
highest_of (span ∷ spans) at = min (if int_lt at span.lo then span.revision - 1 else last_place) (highest_of spans at)

abbrev pub lowest : History → ℤ → ℕ
lowest h at = lowest_of h.start h.spans at

abbrev pub highest : History → ℤ → ℕ
highest h at = highest_of h.spans at

abbrev pub is_reachable : History → Event → ℕ → Bool
is_reachable h event revision = nat_le h.start revision && nat_le revision (highest h event.hi)

abbrev pub low_end_of : History → Event → Reading → ℕ
low_end_of h event MostRecent = lowest h event.lo
low_end_of h event AnyVersion = h.start
low_end_of h event (NotOlderThan revision) = max h.start revision
low_end_of h event (Exactly revision) = if is_reachable h event revision then revision else 1
low_end_of h event (Checkpoint revision) = revision

abbrev pub high_end_of : History → Event → Reading → ℕ
high_end_of h event MostRecent = highest h event.hi
high_end_of h event AnyVersion = highest h event.hi
high_end_of h event (NotOlderThan revision) = highest h event.hi
high_end_of h event (Exactly revision) = if is_reachable h event revision then revision else 0
high_end_of h event (Checkpoint revision) = revision

-- the ends of an event's window, in which its answer may be right; the window may be empty
abbrev pub low_end : History → Event → ℕ
low_end h event = low_end_of h event event.reading

abbrev pub high_end : History → Event → ℕ
high_end h event = high_end_of h event event.reading

abbrev pub InWindow : History → Event → ℕ → Type 0
InWindow h event place = (low_end h event ≤ place) × (place ≤ high_end h event)

-- the ends of the places at which the caches of an authorizer may be
abbrev pub decision_low : History → Event → ℕ
decision_low h event = lowest h (event.lo -ℤ pos h.lag)

abbrev pub decision_high : History → Event → ℕ
decision_high h event = highest h event.hi
