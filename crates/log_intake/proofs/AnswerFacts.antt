-- What is answered to a log, once a batch of it was gathered.
use Rattle.std.proofs.Common.{◌≡◌, ℕ, ◌+◌, ◌≤◌, List, Option, Result, Ok, Err, refl, sym, subst, arith}
use Rattle.std.specs.Result.{IfErr, IsErrAnd}
use Rattle.edge_io.specs.Faults.{Rose}
use Rattle.audit_event.specs.declared.event.Event.{Event}
use Rattle.audit_event.specs.Keeping.{AreKept}
use Rattle.line_reader.specs.declared.line.Line.{Line}
use Rattle.line_reader.specs.Reading.{Reading}
use Rattle.log_intake.specs.declared.keeping.Place.{Place}
use Rattle.log_intake.specs.declared.batch.BatchEnd.{BatchEnd}
use Rattle.log_intake.specs.declared.batch.BatchEnd.TheVariants.{GoesOn, Ended, Failed, LineTooLong, InputTooLong}
use Rattle.log_intake.specs.declared.stop.LogStop.{LogStop}
use Rattle.log_intake.specs.declared.stop.LogStop.TheVariants as stop
use Rattle.log_intake.specs.Batches.{Gathers, TakesSome, line_values}
use Rattle.log_intake.specs.Kept.{AreBefore}
use Rattle.log_intake.specs.Log.{IsLogRead, TakesLines, log_state}
use Rattle.log_intake.specs.Keeping.{AreLinesKept}
use Rattle.log_intake.specs.Taking.{IsRefusal, ReadsLog, RefusesNothing}
use Rattle.log_intake.proofs.LogFacts.{HasReadLog, batch_ended, batch_line_long, batch_past, batch_read, batch_refused, log_events, takes_batch, takes_ended, takes_failed, takes_nothing, takes_some}

-- what holds of a stop holds of the answer that passes it on
pub stop_passed : {T : Type 0} (answer : Result T LogStop) (why : LogStop) (P : LogStop → Type 0) → IsErrAnd answer (λ e. e ≡ why) → P why → IfErr answer P
stop_passed {T} (Ok value) why P is holds = tt
stop_passed {T} (Err e) why P is holds = subst P (sym is) holds

pub stop_answered : {T : Type 0} (answer : Result T LogStop) (why : LogStop) (P : Result T LogStop → Type 0) → IsErrAnd answer (λ e. e ≡ why) → P (Err why) → P answer
stop_answered {T} (Ok value) why P is holds = absurd is
stop_answered {T} (Err e) why P is holds = subst (λ w. P (Err w)) (sym is) holds

pub kept_as : (slice lines : List Line) (place place' : Place) (kept kept' : List Event) → slice ≡ lines → AreLinesKept slice place place' kept kept' → AreLinesKept lines place place' kept kept'
kept_as slice lines place place' kept kept' is all = subst (λ l. AreLinesKept l place place' kept kept') is all

-- before any read
pub reads_nothing : (old : Option (List ℕ)) (faults : ℕ) → ReadsLog old old faults faults (Err stop.OutOfMemory)
reads_nothing old faults = record {
  answers = λ bytes told refusal. absurd refusal;
  sound = tt;
  whole = tt;
  fault = λ is. absurd cc;
  counted = omega arith;
  taken = takes_nothing old _;
}

-- want of memory amid a batch
pub reads_some : (old middle now : Option (List ℕ)) (faults faults' : ℕ) (r : Reading) (kept : List Event) (place : Place) (before : ℕ) → HasReadLog old middle r kept place before → TakesSome middle now before 4259840 → faults ≤ faults' → ReadsLog old now faults faults' (Err stop.OutOfMemory)
reads_some old middle now faults faults' r kept place before s g counted = record {
  answers = λ bytes told refusal. absurd refusal;
  sound = tt;
  whole = tt;
  fault = λ is. absurd cc;
  counted = counted;
  taken = takes_some old middle now r kept place before _ s g (λ never. never);
}

-- a stop that isn't a failed read refuses, or wants memory
pub refused_bytes : (why : LogStop) → (why ≡ stop.ReadFault → ⊥) → RefusesNothing (Err why) → ⊥
refused_bytes (stop.Malformed line code) fine is = is
refused_bytes stop.LineTooLong fine is = is
refused_bytes stop.TooManyEvents fine is = is
refused_bytes stop.TooLong fine is = is
refused_bytes stop.ReadFault fine is = fine refl
refused_bytes stop.OutOfMemory fine is = is

-- the lines of a batch stop the log
pub reads_refused : (end : BatchEnd) (old middle now : Option (List ℕ)) (faults faults' : ℕ) (r b : Reading) (kept : List Event) (place : Place) (lines slice : List Line) (before taken : ℕ) (why : LogStop) → HasReadLog old middle r kept place before → Gathers end middle now r b (line_values lines) before taken 1376256
    → slice ≡ lines → (IsRefusal why → TakesLines (log_state place.extra kept) (line_values slice) (Err why)) → (why ≡ stop.ReadFault → ⊥) → faults ≤ faults' → ReadsLog old now faults faults' (Err why)
reads_refused end old middle now faults faults' r b kept place lines slice before taken why s g is refused fine counted = record {
  answers = λ bytes told refusal. batch_refused end old middle now r b kept place (line_values lines) before taken why bytes s g (subst (λ l. TakesLines (log_state place.extra kept) (line_values l) (Err why)) is (refused refusal)) told;
  sound = tt;
  whole = tt;
  fault = λ same. absurd (fine (let here : why ≡ stop.ReadFault = cc in here));
  counted = counted;
  taken = takes_batch end old middle now r b kept place (line_values lines) before taken _ s g (λ is. absurd (refused_bytes why fine is));
}

-- the input ended
pub reads_ended : (end : BatchEnd) (old middle now : Option (List ℕ)) (faults faults' : ℕ) (r b : Reading) (kept kept' events : List Event) (place place' : Place) (lines slice : List Line) (before taken : ℕ) → end ≡ Ended → HasReadLog old middle r kept place before → Gathers end middle now r b (line_values lines) before taken 1376256
    → slice ≡ lines → AreLinesKept slice place place' kept kept' → events ≡ kept' → AreKept events → faults ≤ faults' → ReadsLog old now faults faults' (Ok events)
reads_ended end old middle now faults faults' r b kept kept' events place place' lines slice before taken ended s g is keeping finished are counted =
    let at_end : Gathers Ended middle now r b (line_values lines) before taken 1376256 = subst (λ e. Gathers e middle now r b (line_values lines) before taken 1376256) ended g in
    let a = kept_as slice lines place place' kept kept' is keeping in
    record {
      answers = λ bytes told. subst (λ l. IsLogRead bytes (Ok l)) (sym finished) (batch_ended old middle now r b kept kept' place place' (line_values lines) before taken bytes s at_end a.takes told);
      sound = log_events Ended old middle now r b kept events place place' (line_values lines) before taken s at_end a.line a.extra (subst (AreBefore (place'.line + place'.extra + 1)) (sym finished) a.before) are;
      whole = at_end.lines.2;
      fault = λ same. absurd cc;
      counted = counted;
      taken = takes_ended old middle now r b kept kept' place place' (line_values lines) before taken _ s at_end a.takes;
    }

-- a read failed
pub reads_failed : (end : BatchEnd) (old middle now : Option (List ℕ)) (faults faults' : ℕ) (r b : Reading) (kept kept' : List Event) (place place' : Place) (lines slice : List Line) (before taken : ℕ) → end ≡ Failed → HasReadLog old middle r kept place before → Gathers end middle now r b (line_values lines) before taken 1376256
    → slice ≡ lines → AreLinesKept slice place place' kept kept' → faults ≤ faults' → Rose faults faults' → ReadsLog old now faults faults' (Err stop.ReadFault)
reads_failed end old middle now faults faults' r b kept kept' place place' lines slice before taken failed s g is keeping counted rose = record {
  answers = λ bytes told refusal. absurd refusal;
  sound = tt;
  whole = tt;
  fault = λ _. rose;
  counted = counted;
  taken = takes_failed old middle now r b kept kept' place place' (line_values lines) before taken _ s (subst (λ e. Gathers e middle now r b (line_values lines) before taken 1376256) failed g) (kept_as slice lines place place' kept kept' is keeping).takes;
}

-- a line is too long
pub reads_long : (end : BatchEnd) (old middle now : Option (List ℕ)) (faults faults' : ℕ) (r b : Reading) (kept kept' : List Event) (place place' : Place) (lines slice : List Line) (before taken : ℕ) → end ≡ LineTooLong → HasReadLog old middle r kept place before → Gathers end middle now r b (line_values lines) before taken 1376256
    → slice ≡ lines → AreLinesKept slice place place' kept kept' → faults ≤ faults' → ReadsLog old now faults faults' (Err stop.LineTooLong)
reads_long end old middle now faults faults' r b kept kept' place place' lines slice before taken long s g is keeping counted =
    let here : Gathers LineTooLong middle now r b (line_values lines) before taken 1376256 = subst (λ e. Gathers e middle now r b (line_values lines) before taken 1376256) long g in
    record {
      answers = λ bytes told refusal. batch_line_long old middle now r b kept kept' place place' (line_values lines) before taken bytes s here (kept_as slice lines place place' kept kept' is keeping).takes told;
      sound = tt;
      whole = tt;
      fault = λ same. absurd cc;
      counted = counted;
      taken = takes_batch LineTooLong old middle now r b kept place (line_values lines) before taken _ s here (λ never. absurd never);
    }

-- the input is too long
pub reads_past : (end : BatchEnd) (old middle now : Option (List ℕ)) (faults faults' : ℕ) (r b : Reading) (kept kept' : List Event) (place place' : Place) (lines slice : List Line) (before taken : ℕ) → end ≡ InputTooLong → HasReadLog old middle r kept place before → Gathers end middle now r b (line_values lines) before taken 1376256
    → slice ≡ lines → AreLinesKept slice place place' kept kept' → faults ≤ faults' → ReadsLog old now faults faults' (Err stop.TooLong)
reads_past end old middle now faults faults' r b kept kept' place place' lines slice before taken long s g is keeping counted =
    let here : Gathers InputTooLong middle now r b (line_values lines) before taken 1376256 = subst (λ e. Gathers e middle now r b (line_values lines) before taken 1376256) long g in
    record {
      answers = λ bytes told refusal. batch_past old middle now r b kept kept' place place' (line_values lines) before taken bytes s here (kept_as slice lines place place' kept kept' is keeping).takes told;
      sound = tt;
      whole = tt;
      fault = λ same. absurd cc;
      counted = counted;
      taken = takes_batch InputTooLong old middle now r b kept place (line_values lines) before taken _ s here (λ never. absurd never);
    }

-- the log goes on
pub reads_on : (end : BatchEnd) (old middle now : Option (List ℕ)) (r b : Reading) (kept kept' : List Event) (place place' : Place) (lines slice : List Line) (before taken : ℕ) → end ≡ GoesOn → HasReadLog old middle r kept place before → Gathers end middle now r b (line_values lines) before taken 1376256
    → slice ≡ lines → AreLinesKept slice place place' kept kept' → HasReadLog old now b kept' place' taken
reads_on end old middle now r b kept kept' place place' lines slice before taken on s g is keeping =
    let a = kept_as slice lines place place' kept kept' is keeping in
    batch_read old middle now r b kept kept' place place' (line_values lines) before taken s (subst (λ e. Gathers e middle now r b (line_values lines) before taken 1376256) on g) a.takes a.line a.extra a.before
