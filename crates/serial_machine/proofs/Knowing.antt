-- What the readers of a context tell of its history.
use Rattle.std.proofs.Common.{◌≡◌, ℕ, ◌<◌, List, get_or, length, map, sym, ap, subst}
use Rattle.history_model.proofs.Fits.{same_event}
use Rattle.history_model.specs.Events.{Event}
use Rattle.history_model.specs.Histories.{IsEvent}
use Rattle.object_past.specs.Modelled.{recorded, version_of}
use Rattle.object_past.specs.Past.{HasPast, Recorded}
use Rattle.serial_machine.proofs.Numbering.{numbered}
use Rattle.time_windows.specs.History as timed
use Rattle.log_context.specs.Histories.{history_of}
use Rattle.log_context.specs.Known.{Known}
use Rattle.write_groups.specs.Modelled.{HasEvents, HasTimes, event_of, span_of}
use Rattle.write_groups.specs.declared.event.LogEvent.{LogEvent}

pub has_past : (known : Known) (past : Recorded) → past.versions ≡ known.versions → past.removals ≡ known.removals → HasPast past (history_of known)
has_past known past v r = record { versions = ap (map version_of) (sym v); removals = ap (map recorded) (sym r) }

pub has_events : (known : Known) (log : List LogEvent) → log ≡ known.log → HasEvents log (history_of known)
has_events known log e = ap (map event_of) (sym e)

pub has_times : (known : Known) (windows : timed.History) → windows.start ≡ known.setup.start → windows.spans ≡ known.spans → HasTimes windows (history_of known)
has_times known windows s t = record { start = sym s; spans = ap (map span_of) (sym t) }

-- what is read from the log at a number is the event of that number
pub item_event : (known : Known) (log : List LogEvent) → log ≡ known.log → (number : ℕ) → number < length known.log → (item : LogEvent) → item ≡ get_or log number item
    → IsEvent (history_of known) number (event_of item)
item_event known log e number l item is = subst (λ x. IsEvent (history_of known) number (event_of x)) (sym is)
    (numbered (history_of known) log (has_events known log e) number item (subst (λ xs. number < length xs) (sym e) l))

pub same_item : (known : Known) (log : List LogEvent) → log ≡ known.log → (number : ℕ) → number < length known.log → (item : LogEvent) → item ≡ get_or log number item
    → (event : Event) → IsEvent (history_of known) number event → event_of item ≡ event
same_item known log e number l item is event known_there = same_event (history_of known) number (event_of item) event (item_event known log e number l item is) known_there
