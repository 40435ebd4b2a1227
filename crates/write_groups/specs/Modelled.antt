-- Events in the terms of the model of history.
use Rattle.std.specs.Prelude.{◌≡◌, List, map}
use Rattle.history_model.specs.Events as model
use Rattle.history_model.specs.Histories.{History, Span}
use Rattle.time_windows.specs.declared.span.Span as timed
use Rattle.time_windows.specs.History as timed_history
use Rattle.write_groups.specs.declared.event.Item.{Item}
use Rattle.write_groups.specs.declared.event.Listing.{Listing}
use Rattle.write_groups.specs.declared.event.LogEvent.{LogEvent}
use Rattle.write_groups.specs.declared.event.Preconditions.{Preconditions}
use Rattle.write_groups.specs.declared.event.Reading.{Reading}
use Rattle.write_groups.specs.declared.event.Reading.TheVariants.{MostRecent, AnyVersion, NotOlderThan, Exactly, Checkpoint}
use Rattle.write_groups.specs.declared.event.Shown.{Shown}
use Rattle.write_groups.specs.declared.event.Shown.TheVariants.{Made, Removed, Opaque, Saw, SawNone, SawSome, SawOther, Listed, Free, Aside}

abbrev pub item_of : Item → model.Item
item_of item = record { key = item.key; revision = item.revision; uid = item.uid; tree = item.node.0 }

abbrev pub conditions_of : Preconditions → model.Conditions
conditions_of asked = record { revision = asked.revision; uid = asked.uid }

abbrev pub listing_of : Listing → model.Listing
listing_of listing = record {
  group = listing.group;
  resource = listing.resource;
  namespace = listing.namespace;
  revision = listing.revision;
  whole = listing.whole;
  items = map item_of listing.items;
}

abbrev pub answer_of : Shown → model.Answer
answer_of (Made item created) = model.Made (item_of item) created
answer_of (Removed key uid) = model.Removed key uid
answer_of (Opaque cover) = model.Opaque cover
answer_of (Saw item) = model.Saw (item_of item)
answer_of (SawNone key) = model.SawNone key
answer_of (SawSome key) = model.SawSome key
answer_of (SawOther key) = model.SawOther key
answer_of (Listed listing) = model.Listed (listing_of listing)
answer_of Free = model.Free
answer_of Aside = model.Aside

abbrev pub reading_of : Reading → model.Reading
reading_of MostRecent = model.MostRecent
reading_of AnyVersion = model.AnyVersion
reading_of (NotOlderThan revision) = model.NotOlderThan revision
reading_of (Exactly revision) = model.Exactly revision
reading_of (Checkpoint revision) = model.Checkpoint revision

abbrev pub event_of : LogEvent → model.Event
event_of event = record {
  line = event.line;
  lo = event.lo.0;
  hi = event.hi.0;
  reading = reading_of event.reading;
  conditions = conditions_of event.preconditions;
  answer = answer_of event.answer;
  other_level = event.other_level;
  omitted_stage = event.omitted_stage;
  decision = event.decision;
}

abbrev pub span_of : timed.Span → Span
span_of span = record { revision = span.revision; lo = span.lo.0; hi = span.hi.0 }

-- the history's events are these
abbrev pub HasEvents : List LogEvent → History → Type 0
HasEvents events h = h.events ≡ map event_of events

-- the history's revisions were written in these spans
pub record HasTimes (windows : timed_history.History) (h : History) : Type 0 where
  pub start : h.start ≡ windows.start
  pub spans : h.spans ≡ map span_of windows.spans
