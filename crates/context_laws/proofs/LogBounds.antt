-- A log that is read keeps few events, at small lines.
use Rattle.std.proofs.Common.{◌≡◌, ℕ, ◌+◌, ◌-◌, ◌≤◌, inl, inr, List, [], ◌∷◌, length, length-append, Option, Some, None, Result, Ok, Err, IfNone, All, refl, sym, subst, ap, arith}
use Rattle.std.proofs.lemmas.List.Elements.{All-nil, All-cons, All-push, All-tail}
use Rattle.audit_event.specs.declared.event.Event.{Event}
use Rattle.batch_decode.proofs.ListLemmas.{numbered}
use Rattle.batch_decode.specs.Batches.{IsDecoded}
use Rattle.batch_decode.specs.Lists.{list_items, values_of}
use Rattle.batch_decode.specs.declared.decoded.Decoded.{Decoded}
use Rattle.batch_decode.specs.declared.decoded.ItemFault.{ItemFault}
use Rattle.line_reader.specs.Lines.{NumberedLine, lines_from, lines_of}
use Rattle.log_intake.proofs.NumberFacts.{few_numbers, ordered_less, ordered_numbered}
use Rattle.log_intake.proofs.ReadFacts.{limit_is}
use Rattle.log_intake.specs.Log.{IsLogRead, LogState, TakesEvent, TakesLine, TakesLines, behind_events, kept_of, most_input, nothing_read, numbered_events, past_limit, unless_fault}
use Rattle.log_intake.specs.Numbering.{AreOrdered, most_items}
use Rattle.log_intake.specs.Steps.{InOrder}
use Rattle.log_intake.specs.declared.stop.LogStop.{LogStop}
use Rattle.log_intake.specs.declared.stop.LogStop.TheVariants.{LineTooLong, TooLong}

-- few events, at lines up to 2^40
pub record AreFew (events : List Event) : Type 0 where
  pub lines : All (λ (event : Event). event.line ≤ 1099511627776) events
  pub few : length events ≤ 4194304

no_ok : {A E : Type 0} (x : A) (e : E) → ◌≡◌ {A = Result A E} (Ok x) (Err e) → ⊥
no_ok x e is = cc is

same_ok : {A E : Type 0} (x y : A) → ◌≡◌ {A = Result A E} (Ok x) (Ok y) → x ≡ y
same_ok x y is = cc is

-- one more event is kept, or it repeats one that was
event_few : (kept after : List Event) (event : Event) → AreFew kept → event.line ≤ 1099511627776 → TakesEvent kept event (Ok after) → AreFew after
event_few kept after event are line (inl (new, room, is)) = subst AreFew (sym is) (record {
  lines = All-push (λ (e : Event). e.line ≤ 1099511627776) kept event are.lines line;
  few = (let long = length-append kept (event ∷ []) in omega (arith, long, room));
})
event_few kept after event are line (inr (repeats, is)) = subst AreFew (sym is) are

events_few : (events kept after : List Event) → AreFew kept → All (λ (e : Event). e.line ≤ 1099511627776) events → InOrder TakesEvent kept events (Ok after) → AreFew after
events_few [] kept after are lines takes = subst AreFew (sym (same_ok {E = LogStop} after kept takes)) are
events_few (event ∷ events) kept after are lines (inl (next, step, rest)) =
    events_few events next after (event_few kept next event are (lines 0 event (omega arith)) step) (All-tail (λ (e : Event). e.line ≤ 1099511627776) event events lines) rest
events_few (event ∷ events) kept after are lines (inr (stop, step, stopped)) = absurd (no_ok after stop stopped)

-- numbers from this one on
numbers_small : (first : ℕ) (events : List Event) → first + length events ≤ 1099511627777 → All (λ (e : Event). e.line ≤ 1099511627776) (numbered_events first events)
numbers_small first [] few = All-nil (λ (e : Event). e.line ≤ 1099511627776)
numbers_small first (event ∷ events) few =
    All-cons (λ (e : Event). e.line ≤ 1099511627776) (record event { line = first }) (numbered_events (first + 1) events) (omega (arith, few)) (numbers_small (first + 1) events (omega (arith, few)))

-- what a line without a fault stands for
record IsWithin (bytes : List ℕ) (decoded : Decoded) : Type 0 where
  some : 1 ≤ decoded.taken
  events : length decoded.events ≤ decoded.taken
  few : decoded.taken ≤ most_items bytes

decoded_within : (bytes : List ℕ) (decoded : Decoded) → IsDecoded bytes decoded → decoded.fault ≡ None → IsWithin bytes decoded
decoded_within bytes decoded (inl (not, same)) none = absurd (cc (ap (λ (d : Decoded). d.fault) same, none))
decoded_within bytes decoded (inr (value, is, decodes)) none =
    let n = numbered bytes value decoded is decodes in
    let all : length decoded.events ≡ length (values_of (list_items value) value) = subst (λ f. IfNone f (length decoded.events ≡ length (values_of (list_items value) value))) none decodes.events.all in
    let taken = decodes.taken in
    record { some = n.some; events = omega (arith, all, taken); few = n.few }

-- what is kept behind a line, and the numbers that it took beyond one
record AreFewBehind (state next : LogState) (line : NumberedLine) : Type 0 where
  kept : AreFew next.kept
  extra : next.extra ≤ state.extra + (most_items line.bytes - 1)

line_behind : (state next : LogState) (line : NumberedLine) (decoded : Decoded) (kept : List Event) (fault : Option ItemFault) → AreFew state.kept → line.number + (state.extra + (most_items line.bytes - 1)) ≤ 1099511627776
    → IsDecoded line.bytes decoded → InOrder TakesEvent state.kept (numbered_events (line.number + state.extra) decoded.events) (Ok kept)
    → decoded.fault ≡ fault → Ok next ≡ unless_fault (line.number + state.extra) fault (record { extra = state.extra + (decoded.taken - 1); kept = kept }) → AreFewBehind state next line
line_behind state next line decoded kept None are room is takes none found =
    let same = same_ok {E = LogStop} next (record { extra = state.extra + (decoded.taken - 1); kept = kept }) found in
    let within = decoded_within line.bytes decoded is none in
    let some = within.some in
    let events = within.events in
    let few = within.few in
    let small = numbers_small (line.number + state.extra) decoded.events (omega (arith, room, some, events, few)) in
    record {
      kept = subst AreFew (sym (ap (λ (s : LogState). s.kept) same)) (events_few (numbered_events (line.number + state.extra) decoded.events) state.kept kept are small takes);
      extra = (let e = ap (λ (s : LogState). s.extra) same in omega (arith, e, some, few));
    }
line_behind state next line decoded kept (Some fault) are room is takes some found = absurd (no_ok next _ found)

line_taken : (state next : LogState) (line : NumberedLine) (decoded : Decoded) (events : Result (List Event) LogStop) → AreFew state.kept → line.number + (state.extra + (most_items line.bytes - 1)) ≤ 1099511627776
    → IsDecoded line.bytes decoded → InOrder TakesEvent state.kept (numbered_events (line.number + state.extra) decoded.events) events
    → Ok next ≡ behind_events (line.number + state.extra) decoded state.extra events → AreFewBehind state next line
line_taken state next line decoded (Ok kept) are room is takes found = line_behind state next line decoded kept decoded.fault are room is takes refl found
line_taken state next line decoded (Err stop) are room is takes found = absurd (no_ok next stop found)

line_few : (state next : LogState) (line : NumberedLine) → AreFew state.kept → line.number + (state.extra + (most_items line.bytes - 1)) ≤ 1099511627776 → TakesLine state line (Ok next) → AreFewBehind state next line
line_few state next line are room (inl (long, over)) = absurd (no_ok next LineTooLong over)
line_few state next line are room (inr (short, taken)) = line_taken state next line taken.0 taken.2.0 are room taken.1 taken.2.1 taken.2.2

lines_few : (last : ℕ) (state found : LogState) (lines : List NumberedLine) → AreFew state.kept → AreOrdered last state.extra lines → TakesLines state lines (Ok found) → AreFew found.kept
lines_few last state found [] are ordered takes = subst (λ (s : LogState). AreFew s.kept) (sym (same_ok {E = LogStop} found state takes)) are
lines_few last state found (line ∷ lines) are ordered (inl (next, step, rest)) =
    let behind = line_few state next line are ordered.1 step in
    lines_few line.number next found lines behind.kept (ordered_less line.number (state.extra + (most_items line.bytes - 1)) next.extra lines behind.extra ordered.2) rest
lines_few last state found (line ∷ lines) are ordered (inr (stop, step, stopped)) = absurd (no_ok found stop stopped)

state_few : (bytes : List ℕ) (events : List Event) → length bytes ≤ most_input → (found : Result LogState LogStop) → TakesLines nothing_read (lines_from 0 bytes) found → Ok events ≡ kept_of found → AreFew events
state_few bytes events short (Ok state) takes is =
    let most : length bytes ≤ 1099511627776 = subst (λ m. length bytes ≤ m) (sym limit_is) short in
    let numbers = few_numbers bytes in
    let ordered = ordered_numbered 0 0 0 (lines_of bytes) (omega arith) (omega (arith, most, numbers)) in
    let none : AreFew nothing_read.kept = record { lines = All-nil (λ (e : Event). e.line ≤ 1099511627776); few = omega arith } in
    subst AreFew (sym (same_ok {E = LogStop} events state.kept is)) (lines_few 0 nothing_read state (lines_from 0 bytes) none ordered takes)
state_few bytes events short (Err stop) takes is = absurd (no_ok events stop is)

not_past : (events : List Event) (found : Result LogState LogStop) → Ok events ≡ past_limit found → ⊥
not_past events (Ok state) is = no_ok events TooLong is
not_past events (Err stop) is = no_ok events stop is

pub log_few : (bytes : List ℕ) (events : List Event) → IsLogRead bytes (Ok events) → AreFew events
log_few bytes events (inl (short, read)) = state_few bytes events short read.0 read.1 read.2
log_few bytes events (inr (long, read)) = absurd (not_past events read.0 read.2)
