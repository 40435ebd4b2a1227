-- What the page says of a log as a whole.
use Rattle.std.specs.Prelude.{◌==◌, ℕ, pos, min, max, int_lt, unsigned_abs, if◌then◌else◌, List, [], ◌∷◌, ◌++◌, fold, codes}
use Rattle.audit_event.specs.declared.event.Event.{Event}
use Rattle.log_picture.specs.Texts.{overview_head}
use Rattle.log_picture.specs.declared.overview.Overview.{Overview}
use Rattle.markup.specs.Moments.{moment_at, moment_text}
use Rattle.markup.specs.Pieces.{fixed, number, shown}
use Rattle.object_past.specs.declared.version.Version.{Version}

-- When the request of an event was received, in nanoseconds since 1970: 0 before, and the greatest number from the year 2554 on.
abbrev pub receipt : Event → ℕ
receipt event = if int_lt event.received.0 (pos 0) then 0 else min (unsigned_abs event.received.0) 18446744073709551615

abbrev pub earlier : ℕ → Event → ℕ
earlier first event = min first (receipt event)

abbrev pub later : ℕ → Event → ℕ
later last event = max last (receipt event)

-- the latest receipt, or 0
abbrev pub last_receipt : List Event → ℕ
last_receipt events = fold later 0 events

-- the earliest receipt, or 0: none is later than the latest
abbrev pub first_receipt : List Event → ℕ
first_receipt events = fold earlier (last_receipt events) events

abbrev pub greater : ℕ → Version → ℕ
greater most v = max most v.revision

-- the greatest revision of a version, but at least the start
abbrev pub greatest_revision : ℕ → List Version → ℕ
greatest_revision start versions = fold greater start versions

unfoldable pub first_text : Overview → List ℕ
first_text overview = overview_head ++ shown (
    fixed (codes "<dt>Events</dt><dd>") ∷ number overview.events
    ∷ fixed (codes "</dd>\n<dt>Checkpoints</dt><dd>") ∷ number overview.checkpoints
    ∷ fixed (codes "</dd>\n<dt>First receipt</dt><dd>") ∷ [])

unfoldable pub last_text : Overview → List ℕ
last_text overview = shown (
    fixed (codes "</dd>\n<dt>Revision at the start</dt><dd>") ∷ number overview.start
    ∷ fixed (codes "</dd>\n<dt>Objects at the start</dt><dd>") ∷ number overview.objects
    ∷ fixed (codes "</dd>\n<dt>Greatest revision</dt><dd>") ∷ number overview.greatest
    ∷ fixed (codes "</dd>\n</dl>\n") ∷ [])

abbrev pub between_text : List ℕ
between_text = codes "</dd>\n<dt>Last receipt</dt><dd>"

-- the first receipt and the last
unfoldable pub receipts_text : Overview → List ℕ
receipts_text overview = moment_text (moment_at overview.first) ++ (between_text ++ moment_text (moment_at overview.last))

unfoldable pub receipts_or_none : Overview → List ℕ
receipts_or_none overview = if overview.events == 0 then codes "none</dd>\n<dt>Last receipt</dt><dd>none" else receipts_text overview

unfoldable pub overview_text : Overview → List ℕ
overview_text overview = first_text overview ++ receipts_or_none overview ++ last_text overview
