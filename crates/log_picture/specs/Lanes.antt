-- The drawing of the log over time.
use Rattle.std.specs.Prelude.{ℕ, Bool, ◌||◌, ◌==◌, List, [], ◌∷◌, ◌++◌, Option, Some, None, is_some, length, filter, zip, codes, flat_map, if◌then◌else◌}
use Rattle.audit_event.specs.declared.event.Event.{Event}
use Rattle.base_types.specs.declared.kubernetes.request.Decision.{Decision}
use Rattle.base_types.specs.declared.kubernetes.request.Decision.TheVariants.{Allow, Forbid}
use Rattle.log_picture.specs.Kinds.{kind_of, kind_words}
use Rattle.log_picture.specs.Limits.{event_limit, rest_of, spread}
use Rattle.log_picture.specs.Overview.{receipt}
use Rattle.log_picture.specs.Texts.{events_head, no_events, time_head}
use Rattle.log_picture.specs.declared.kind.AnswerKind.{AnswerKind}
use Rattle.log_picture.specs.declared.kind.AnswerKind.TheVariants as kind
use Rattle.log_picture.specs.declared.lanes.MarkForm.{MarkForm}
use Rattle.log_picture.specs.declared.lanes.MarkForm.TheVariants as form
use Rattle.log_picture.specs.declared.lanes.Marked.{Marked}
use Rattle.log_picture.specs.declared.tables.TheConstants.{EVENTS_END}
use Rattle.markup.specs.Drawing.{position}
use Rattle.markup.specs.Moments.{moment_at, moment_text}
use Rattle.markup.specs.Pieces.{fixed, number, told, shown}
use Rattle.markup.specs.declared.drawing.Axis.{Axis}
use Rattle.write_groups.specs.declared.event.LogEvent.{LogEvent}

-- how the answer of an event is marked, where it is
abbrev pub form_of : AnswerKind → Option MarkForm
form_of kind.Created = Some form.Write
form_of kind.Changed = Some form.Write
form_of kind.Removed = Some form.Removal
form_of kind.Unrecorded = Some form.Unrecorded
form_of kind.Saw = Some form.Read
form_of kind.NotFound = Some form.Read
form_of kind.AlreadyExists = Some form.Read
form_of kind.Conflict = Some form.Read
form_of kind.Listed = Some form.List
form_of kind.Free = None
form_of kind.Aside = None

-- how its judged decision is marked, where it has one
abbrev pub decision_form : Option Decision → Option MarkForm
decision_form None = None
decision_form (Some Allow) = Some form.Allow
decision_form (Some Forbid) = Some form.Forbid

-- by which of the page's styles it is drawn
abbrev pub style_of : MarkForm → List ℕ
style_of form.Write = codes "tick"
style_of form.Removal = codes "diamond"
style_of form.Read = codes "segment"
style_of form.List = codes "segment"
style_of form.Allow = codes "tick"
style_of form.Forbid = codes "tick"
style_of form.Unrecorded = codes "hatched"

-- a tick, a diamond, a circle, a square, a cross that stands, one that lies, a broken tick
abbrev pub outline_of : MarkForm → List ℕ
outline_of form.Write = codes "M0 -9V9"
outline_of form.Removal = codes "M0 -8L6 0L0 8L-6 0Z"
outline_of form.Read = codes "M-5 0A5 5 0 1 0 5 0A5 5 0 1 0 -5 0Z"
outline_of form.List = codes "M-5 -5H5V5H-5Z"
outline_of form.Allow = codes "M-6 0H6M0 -6V6"
outline_of form.Forbid = codes "M-5 -5L5 5M5 -5L-5 5"
outline_of form.Unrecorded = codes "M0 -9V9"

-- how far down its lane is
abbrev pub lane_of : MarkForm → ℕ
lane_of form.Write = 24
lane_of form.Removal = 54
lane_of form.Read = 84
lane_of form.List = 114
lane_of form.Allow = 144
lane_of form.Forbid = 144
lane_of form.Unrecorded = 174

unfoldable pub shape_text : List ℕ → List ℕ → ℕ → ℕ → List ℕ
shape_text style outline x y = shown (
    fixed (codes "<path class=\"") ∷ fixed style ∷ fixed (codes "\" d=\"") ∷ fixed outline
    ∷ fixed (codes "\" transform=\"translate(") ∷ number x ∷ fixed (codes " ") ∷ number y ∷ fixed (codes ")\"><title>Line ") ∷ [])

unfoldable pub title_text : Event → List ℕ
title_text event = shown (
    number event.line ∷ fixed (codes ": ") ∷ told event.attrs.verb ∷ fixed (codes " ") ∷ told event.attrs.path
    ∷ fixed (codes "</title></path>\n") ∷ [])

-- a mark of this form at the event's receipt
unfoldable pub form_mark : ℕ → Event → MarkForm → List ℕ
form_mark x event form = shape_text (style_of form) (outline_of form) x (lane_of form) ++ title_text event

unfoldable pub mark_text : ℕ → Event → Option MarkForm → List ℕ
mark_text x event None = []
mark_text x event (Some form) = form_mark x event form

-- the marks of an event's answer and of its decision
unfoldable pub marks_text : Axis → Event × LogEvent → List ℕ
marks_text axis (event, logged) =
    mark_text (position axis (receipt event)) event (form_of (kind_of logged.answer))
    ++ mark_text (position axis (receipt event)) event (decision_form logged.decision)

abbrev pub decision_words : Option Decision → List ℕ
decision_words None = codes "not judged"
decision_words (Some Allow) = codes "allow"
decision_words (Some Forbid) = codes "forbid"

abbrev pub line_cells : Event → List ℕ
line_cells event = shown (fixed (codes "<tr><td>") ∷ number event.line ∷ fixed (codes "</td><td>") ∷ [])

unfoldable pub asked_cells : Event → LogEvent → List ℕ
asked_cells event logged = shown (
    fixed (codes "</td><td>") ∷ told event.attrs.verb ∷ fixed (codes " ") ∷ told event.attrs.path
    ∷ fixed (codes "</td><td>") ∷ fixed (kind_words (kind_of logged.answer))
    ∷ fixed (codes "</td><td>") ∷ fixed (decision_words logged.decision)
    ∷ fixed (codes "</td></tr>\n") ∷ [])

-- the same of an event in a table
unfoldable pub event_row : Event × LogEvent → List ℕ
event_row (event, logged) = line_cells event ++ (moment_text event.received ++ asked_cells event logged)

abbrev pub pair_of : Marked → Event × LogEvent
pair_of marked = (marked.event.now, marked.logged.now)

-- its answer or its decision has a mark
abbrev pub has_mark : Event × LogEvent → Bool
has_mark (event, logged) = is_some (form_of (kind_of logged.answer)) || is_some (decision_form logged.decision)

-- the events of the log that have one
abbrev pub marked_events : List Event → List LogEvent → List (Event × LogEvent)
marked_events events log = filter has_mark (zip events log)

unfoldable pub axis_low_text : Axis → List ℕ
axis_low_text axis = codes "<line class=\"axis\" x1=\"150\" y1=\"198\" x2=\"930\" y2=\"198\"/>\n<text x=\"150\" y=\"216\">" ++ moment_text (moment_at axis.low)

unfoldable pub axis_high_text : Axis → List ℕ
axis_high_text axis = codes "</text>\n<text x=\"930\" y=\"216\" text-anchor=\"end\">" ++ moment_text (moment_at axis.high) ++ codes "</text>\n</svg>\n</figure>\n"

-- the axis with the moments of its ends
unfoldable pub time_axis_text : Axis → List ℕ
time_axis_text axis = axis_low_text axis ++ axis_high_text axis

unfoldable pub time_drawing : Axis → List (Event × LogEvent) → List ℕ
time_drawing axis drawn = time_head ++ flat_map (marks_text axis) drawn ++ time_axis_text axis

unfoldable pub events_table : List (Event × LogEvent) → List ℕ
events_table drawn = events_head ++ flat_map event_row drawn ++ EVENTS_END.now

unfoldable pub drawn_text : Axis → List (Event × LogEvent) → List ℕ
drawn_text axis marked =
    time_drawing axis (spread event_limit marked) ++ rest_of event_limit marked (codes "Events that aren't drawn")
    ++ events_table (spread event_limit marked)

unfoldable pub marked_text : Axis → List (Event × LogEvent) → List ℕ
marked_text axis marked = if length marked == 0 then no_events else drawn_text axis marked

-- a drawing with a lane for each of what events do, and the same as a table
abbrev pub time_text : Axis → List Event → List LogEvent → List ℕ
time_text axis events log = marked_text axis (marked_events events log)
