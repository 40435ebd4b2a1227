-- The page of an explained log.
use Rattle.std.specs.Prelude.{◌≡◌, ℕ, List, ◌++◌, length, map, filter, codes}
use Rattle.base_types.specs.declared.verdict.placed.PlacedLine.{PlacedLine}
use Rattle.history_model.specs.Histories.{History}
use Rattle.history_model.specs.Windows.{low_end}
use Rattle.log_picture.specs.Changes.{AreChanges, changes_text}
use Rattle.log_picture.specs.Counts.{counts_text}
use Rattle.log_picture.specs.Gone.{removals_text}
use Rattle.log_picture.specs.Kinds.{is_of}
use Rattle.log_picture.specs.Lanes.{time_text}
use Rattle.log_picture.specs.Overview.{first_receipt, greatest_revision, last_receipt, overview_text}
use Rattle.log_picture.specs.Revised.{history_text, written_versions}
use Rattle.log_picture.specs.declared.changed.Changed.{Changed}
use Rattle.log_picture.specs.declared.kind.AnswerKind.TheVariants.{Unrecorded}
use Rattle.log_picture.specs.declared.overview.Overview.{Overview}
use Rattle.log_picture.specs.declared.revised.UnrecordedWrite.{UnrecordedWrite}
use Rattle.markup.specs.Frame.{begin_text, end_text}
use Rattle.markup.specs.declared.drawing.Axis.{Axis}
use Rattle.log_context.specs.Histories.{history_of}
use Rattle.log_context.specs.Known.{Known}
use Rattle.write_groups.specs.Modelled.{event_of}
use Rattle.write_groups.specs.declared.event.LogEvent.{LogEvent}

-- an unrecorded write may have happened from the lowest place of its window on
abbrev pub unrecorded_of : History → LogEvent → UnrecordedWrite
unrecorded_of h event = record { line = event.line; low = low_end h (event_of event) }

-- the unrecorded writes among these events
abbrev pub unrecorded_writes_in : History → List LogEvent → List UnrecordedWrite
unrecorded_writes_in h log = map (unrecorded_of h) (filter (is_of Unrecorded) log)

abbrev pub overview_of : Known → Overview
overview_of known = record {
  events = length known.events;
  checkpoints = length known.setup.checkpoints;
  objects = length known.setup.snapshot;
  first = first_receipt known.events;
  last = last_receipt known.events;
  start = known.setup.start;
  greatest = greatest_revision known.setup.start known.versions;
}

-- from the first receipt to the last
abbrev pub time_axis : Overview → Axis
time_axis overview = record { low = overview.first; high = overview.last; left = 150; width = 780 }

-- from the start to the greatest revision
abbrev pub revision_axis : Overview → Axis
revision_axis overview = record { low = overview.start; high = overview.greatest; left = 150; width = 780 }

-- the verdict, how the events were judged, and the log over time
unfoldable pub events_text : Known → Overview → List ℕ
events_text known overview = overview_text overview ++ counts_text known.log ++ time_text (time_axis overview) known.events known.log

-- the history by revision, and the removals
unfoldable pub objects_text : Known → Overview → List PlacedLine → List UnrecordedWrite → List ℕ
objects_text known overview lines unrecorded_writes =
    history_text (revision_axis overview) known.log (written_versions known.versions) known.removals unrecorded_writes ++ removals_text known.log lines known.removals

unfoldable pub sections_text : Known → Overview → List PlacedLine → List UnrecordedWrite → List Changed → List ℕ
sections_text known overview lines unrecorded_writes changes =
    events_text known overview ++ changes_text changes ++ objects_text known overview lines unrecorded_writes

-- the page, with the objects that changed
unfoldable pub log_page_text : Known → List PlacedLine → List Changed → List ℕ
log_page_text known lines changes =
    begin_text (codes "Explained log") ++ sections_text known (overview_of known) lines (unrecorded_writes_in (history_of known) known.log) changes
    ++ end_text

-- the page of what a setup and a log tell, and of the placement that explains the log
pub record IsLogPage (known : Known) (lines : List PlacedLine) (page : List ℕ) : Type 0 where
  pub changes : List Changed
  pub changed : AreChanges known.versions changes
  pub text : page ≡ log_page_text known lines changes

-- a setup, a log and a placement have no two pages
abbrev pub OnePage : Type 0
OnePage = (known : Known) (lines : List PlacedLine) (page other : List ℕ) → IsLogPage known lines page → IsLogPage known lines other → page ≡ other
