-- What is answered to an event, to the events of a line, and to the line.
use Rattle.std.proofs.Common.{◌≡◌, ℕ, ◌+◌, ◌-◌, ◌<◌, ◌≤◌, inl, inr, List, [], ◌∷◌, ◌++◌, length, Some, None, Result, Ok, Err, OnOk, IfErr, refl, sym, ◌∙◌, ap, subst, arith, length-append}
use Rattle.std.proofs.lemmas.List.{append-nil}
use Rattle.line_reader.specs.declared.line.Line.{Line}
use Rattle.line_reader.specs.Lines.{longest_line}
use Rattle.audit_event.specs.declared.event.Event.{Event}
use Rattle.audit_event.specs.declared.fault.Malformed.TheVariants.{M12}
use Rattle.audit_event.specs.Events.{IsSound}
use Rattle.audit_event.specs.Keeping.{SameButLine, WasKept}
use Rattle.batch_decode.specs.declared.decoded.Decoded.{Decoded}
use Rattle.batch_decode.specs.declared.decoded.ItemFault.{ItemFault}
use Rattle.batch_decode.specs.Batches.{IsDecodedLine}
use Rattle.log_intake.specs.declared.keeping.Place.{Place}
use Rattle.log_intake.specs.declared.stop.LogStop.{LogStop}
use Rattle.log_intake.specs.declared.stop.LogStop.TheVariants as stop
use Rattle.log_intake.specs.Keeping.{KeepsEvent, KeepsEvents, KeepsLine}
use Rattle.log_intake.specs.Kept.{AreBefore}
use Rattle.log_intake.specs.Log.{IsNew, Repeats, TakesEvent, log_state, numbered_events, unless_fault}
use Rattle.log_intake.specs.Steps.{InOrder}
use Rattle.log_intake.proofs.EventFacts.{before_more, few_events, fresh_before}

-- a new event, which is kept unless there are too many then
pub fresh_keeps : {A : Type 0} (number count : ℕ) (kept after : List Event) (event : Event) (answer : Result A LogStop) → AreBefore number kept → IsSound event → 1 ≤ number
    → IsNew kept record event { line = number } → after ≡ kept ++ record event { line = number } ∷ [] → count ≡ length after
    → OnOk answer (count ≤ 4194304) → IfErr answer (λ why. (why ≡ stop.TooManyEvents) × (4194304 < count)) → KeepsEvent (record event { line = number }) kept after answer
fresh_keeps {A} number count kept after event (Ok value) are sound some new grows counted within none =
    let long = ap length grows in
    let sum = length-append kept (record event { line = number } ∷ []) in
    record {
      takes = inl (new, omega (arith, long, sum, counted, within), grows);
      before = fresh_before number kept after event are sound some grows (omega (arith, counted, within));
      refused = tt;
      no_fault = λ same. absurd cc;
    }
fresh_keeps {A} number count kept after event (Err why) are sound some new grows counted none many =
    let long = ap length grows in
    let sum = length-append kept (record event { line = number } ∷ []) in
    let more = many.1 in
    let is = many.0 in
    record {
      takes = tt;
      before = tt;
      refused = λ refusal. inr (new, omega (arith, long, sum, counted, more), is);
      no_fault = λ same. absurd cc;
    }

-- an event that repeats one that was kept
pub repeat_keeps : {A : Type 0} (value : A) (number : ℕ) (kept after : List Event) (event : Event) → AreBefore number kept → Repeats kept record event { line = number } → after ≡ kept → KeepsEvent (record event { line = number }) kept after (Ok value)
repeat_keeps {A} value number kept after event are repeats is = record {
  takes = inr (repeats, is);
  before = subst (AreBefore (number + 1)) (sym is) (before_more number (number + 1) kept (omega arith) are);
  refused = tt;
  no_fault = λ same. absurd cc;
}

-- an event that differs from the one that was kept of its request and stage
pub differing_refused : {A : Type 0} (number line : ℕ) (kept after : List Event) (event : Event)
    → ((found : Event) × WasKept kept record event { line = number } found × (found.line ≡ line) × (¬ SameButLine found record event { line = number }))
    → KeepsEvent {A = A} (record event { line = number }) kept after (Err (stop.Malformed number M12))
differing_refused {A} number line kept after event differs = record {
  takes = tt;
  before = tt;
  refused = λ refusal. inl ((differs.0, differs.1, differs.3), refl);
  no_fault = λ same. absurd cc;
}

no_events : (rest : List Event) → length rest ≡ 0 → rest ≡ []
no_events [] none = refl
no_events (event ∷ rest) none = absurd (omega (arith, none))

-- all events were kept
pub events_keep : {A : Type 0} (value : A) (first number : ℕ) (kept after events done rest : List Event) → events ≡ done ++ rest → length rest ≡ 0 → number ≡ first + length done
    → InOrder TakesEvent kept (numbered_events first done) (Ok after) → AreBefore number after → KeepsEvents first events kept after (Ok value)
events_keep {A} value first number kept after events done rest all none is takes before =
    let whole : done ≡ events = sym (all ∙ ap (λ r. done ++ r) (no_events rest none) ∙ append-nil done) in
    record {
      takes = subst (λ l. InOrder TakesEvent kept (numbered_events first l) (Ok after)) whole takes;
      before = subst (λ n. AreBefore n after) (is ∙ ap (λ l. first + length l) whole) before;
      refused = tt;
      no_fault = λ same. absurd cc;
    }

same_stop : {A : Type 0} (a b : LogStop) → ◌≡◌ {A = Result A LogStop} (Err a) (Err b) → a ≡ b
same_stop {A} a b same = cc

-- an event of the line stops it
pub line_stopped : {A : Type 0} (line : Line) (place : Place) (decoded : Decoded) (kept after : List Event) (why : LogStop) → IsDecodedLine line decoded → length line.bytes ≤ longest_line
    → KeepsEvents {A = A} (line.number + place.extra) decoded.events kept after (Err why) → KeepsLine line place kept after (Err why)
line_stopped {A} line place decoded kept after why is short keeps = record {
  whole = tt;
  refused = λ refusal. inr (short, (decoded, is.decoded_is, (Err why, keeps.refused refusal, refl)));
  no_fault = λ same. keeps.no_fault (ap Err (same_stop {A = Place} why stop.ReadFault same));
}

-- the line has no fault
pub line_whole : {A : Type 0} (value : A) (line : Line) (place : Place) (decoded : Decoded) (kept after : List Event) → IsDecodedLine line decoded → length line.bytes ≤ longest_line
    → KeepsEvents (line.number + place.extra) decoded.events kept after (Ok value) → decoded.fault ≡ None → KeepsLine line place kept after (Ok record { line = line.number; extra = place.extra + (decoded.taken - 1) })
line_whole {A} value line place decoded kept after is short keeps none =
    let few = is.numbered.few in
    let some = is.numbered.some in
    let count = few_events line decoded is in
    let whole = sym (ap (λ fault. unless_fault (line.number + place.extra) fault (log_state (place.extra + (decoded.taken - 1)) after)) none) in
    record {
      whole = record {
        takes = inr (short, (decoded, is.decoded_is, (Ok after, keeps.takes, whole)));
        number = refl;
        extra = omega (arith, few);
        before = before_more (line.number + place.extra + length decoded.events) (line.number + (place.extra + (decoded.taken - 1)) + 1) after (omega (arith, some, count)) keeps.before;
      };
      refused = tt;
      no_fault = λ same. absurd cc;
    }

-- the line has a fault behind its events
pub line_broken : {A : Type 0} (value : A) (line : Line) (place : Place) (decoded : Decoded) (kept after : List Event) (fault : ItemFault) → IsDecodedLine line decoded → length line.bytes ≤ longest_line
    → KeepsEvents (line.number + place.extra) decoded.events kept after (Ok value) → decoded.fault ≡ Some fault → KeepsLine line place kept after (Err (stop.Malformed (line.number + place.extra + fault.index) fault.code))
line_broken {A} value line place decoded kept after fault is short keeps some =
    let broken = sym (ap (λ f. unless_fault (line.number + place.extra) f (log_state (place.extra + (decoded.taken - 1)) after)) some) in
    record {
      whole = tt;
      refused = λ refusal. inr (short, (decoded, is.decoded_is, (Ok after, keeps.takes, broken)));
      no_fault = λ same. absurd cc;
    }
