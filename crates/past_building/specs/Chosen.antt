-- Who made a revision, of the writes that were answered with it.
use Rattle.std.specs.Prelude.{ℕ, ◌&&◌, Bool, List, Option, Some, None, if◌then◌else◌, is_none, is_some, option_and_then, option_map, slice_get, find}
use Rattle.base_types.specs.declared.verdict.claim.Reason.{Reason}
use Rattle.write_groups.specs.declared.event.LogEvent.{LogEvent}
use Rattle.past_building.specs.Faults.{found_code}
use Rattle.past_building.specs.Removals.{or_first}
use Rattle.past_building.specs.Written.{making_at}
use Rattle.past_building.specs.declared.maker.JudgedWrite.{JudgedWrite}
use Rattle.object_past.specs.declared.version.Maker.{Maker}
use Rattle.object_past.specs.declared.version.Maker.TheVariants.{Snapshot, Event, Unknown}

-- why the write of the number could not have found its answer
abbrev pub finding_at : (ℕ → Option ℕ → Bool) → List LogEvent → ℕ → Option Reason
finding_at body events number = option_and_then (found_code body) (making_at events number)

-- the first write of all
abbrev pub first_write : List JudgedWrite → Option ℕ
first_write judged = option_map (λ one. one.number) (slice_get judged 0)

-- the write could have made the revision, and couldn't have found it
abbrev pub must_have_made : (ℕ → Option Reason) → JudgedWrite → Bool
must_have_made finding one = is_none one.making && is_some (finding one.number)

-- the first that could have made the revision, and couldn't have found it
abbrev pub first_maker : (ℕ → Option Reason) → List JudgedWrite → Option ℕ
first_maker finding judged = option_map (λ one. one.number) (find (must_have_made finding) judged)

-- the first that could have made the revision
abbrev pub first_able : List JudgedWrite → Option ℕ
first_able judged = option_map (λ one. one.number) (find (λ one. is_none one.making) judged)

-- the first that could have made the revision and couldn't have found it, else the first that could have made it
abbrev pub able_maker : (ℕ → Option Reason) → List JudgedWrite → Option ℕ
able_maker finding judged = or_first (first_maker finding judged) (first_able judged)

abbrev pub unseen_maker : ℕ → Bool → Maker
unseen_maker first may_be_unrecorded = if may_be_unrecorded then Unknown else Event first

abbrev pub or_maker : Option ℕ → Maker → Maker
or_maker None other = other
or_maker (Some number) other = Event number

abbrev pub maker_among : (ℕ → Option Reason) → List JudgedWrite → ℕ → Bool → Maker
maker_among finding judged first may_be_unrecorded = or_maker (able_maker finding judged) (unseen_maker first may_be_unrecorded)

-- the write whose answer shows the version that the maker left
abbrev pub shown_by : ℕ → Maker → ℕ
shown_by first Snapshot = first
shown_by first (Event number) = number
shown_by first Unknown = first
