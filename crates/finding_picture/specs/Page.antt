-- The page of an event that no placement explains.
use Rattle.std.specs.Prelude.{List, ◌++◌, ℕ, codes}
use Rattle.markup.specs.Frame.{begin_text, end_text}
use Rattle.log_context.specs.Known.{Known}
use Rattle.finding_picture.specs.Caches.{caches_text}
use Rattle.finding_picture.specs.Heading.{heading_text}
use Rattle.finding_picture.specs.Hiding.{hiding_section}
use Rattle.finding_picture.specs.Looking.{event_on}
use Rattle.finding_picture.specs.Objects.{logged_on, object_section}
use Rattle.finding_picture.specs.Places.{places_text}
use Rattle.finding_picture.specs.Requests.{request_text}
use Rattle.finding_picture.specs.Rows.{rows_text}
use Rattle.finding_picture.specs.Times.{times_text}
use Rattle.finding_picture.specs.declared.finding.Finding.{Finding}

-- the event, and the writes of its window
unfoldable pub event_sections : Known → Finding → List ℕ
event_sections known finding =
    request_text (event_on known.events finding.line) (logged_on known.log finding.line)
    ++ (places_text known finding
    ++ (times_text known.events (event_on known.events finding.line) finding.writes.now
    ++ rows_text known.events finding.writes.now))

-- what an answer would have been, and what isn't known of it
unfoldable pub object_sections : Known → Finding → List ℕ
object_sections known finding =
    object_section known finding.line finding.low
    ++ (hiding_section known finding.line
    ++ caches_text known finding)

unfoldable pub page_text : Known → Finding → List ℕ
page_text known finding =
    begin_text (codes "Unexplained event")
    ++ (heading_text finding
    ++ (event_sections known finding
    ++ (object_sections known finding
    ++ end_text)))
