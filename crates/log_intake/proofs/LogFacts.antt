-- How far a log was read, batch by batch.
use Rattle.std.proofs.Common.{◌≡◌, ℕ, ◌+◌, ◌^◌, ◌<◌, ◌≤◌, List, [], ◌++◌, length, Option, Some, Ok, Err, refl, sym, ◌∙◌, ap, subst, arith, append_assoc, false, true}
use Rattle.std.proofs.lemmas.List.{append-nil, length-append}
use Rattle.std.specs.Io.KnownBytes.{IsAtEnd}
use Rattle.audit_event.specs.declared.event.Event.{Event}
use Rattle.audit_event.specs.Keeping.{AreKept}
use Rattle.line_reader.specs.declared.line.Line.{Line}
use Rattle.line_reader.specs.Lines.{NumberedLine, lines_of, lines_from}
use Rattle.line_reader.specs.Reading.{Reading, Continues, new_reading}
use Rattle.log_intake.specs.declared.keeping.Place.{Place}
use Rattle.log_intake.specs.declared.batch.BatchEnd.{BatchEnd}
use Rattle.log_intake.specs.declared.batch.BatchEnd.TheVariants.{GoesOn, Ended, Failed, LineTooLong, InputTooLong}
use Rattle.log_intake.specs.declared.stop.LogStop.{LogStop}
use Rattle.log_intake.specs.declared.stop.LogStop.TheVariants as stop
use Rattle.log_intake.specs.Batches.{EndsBatch, Gathers, HoldsOpen, TakesSome, fed_with, line_values}
use Rattle.log_intake.specs.Kept.{AreBefore, AreLogEvents}
use Rattle.log_intake.specs.Log.{IsLogRead, TakesLine, TakesLines, log_state, nothing_read}
use Rattle.log_intake.specs.Numbering.{AreOrdered, last_number, most_extra}
use Rattle.log_intake.specs.Keeping.{AreNext}
use Rattle.edge_io.specs.Whole.{HasTaken}
use Rattle.log_intake.specs.Taking.{HoldsNoRefusal, TakesLog}
use Rattle.log_intake.proofs.BatchFacts.{continues_then, waiting}
use Rattle.log_intake.proofs.NumberFacts.{few_given, few_numbers, last_number-append, most_extra-append, most_extra_less, ordered_behind, ordered_front, ordered_less, ordered_numbered, ordered_within}
use Rattle.log_intake.proofs.ReadFacts.{front_holds, given_refuse, limit_is, log_holds, log_past, log_refused, log_whole, long_refuses}
use Rattle.log_intake.proofs.StepFacts.{in_order_then}
use Rattle.edge_io.proofs.TakenFacts.{taken_all, taken_as, taken_nothing, taken_then}

-- `front` was taken and kept
pub record HasReadLog (old now : Option (List ℕ)) (reader : Reading) (kept : List Event) (place : Place) (taken : ℕ) : Type 0 where
  pub front : List ℕ
  pub long : length front ≡ taken
  pub within : taken ≤ 1099511627776
  pub given : List NumberedLine
  pub continues : Continues (fed_with new_reading front) given reader
  pub held : HoldsOpen reader
  pub takes : TakesLines nothing_read given (Ok (log_state place.extra kept))
  pub line : place.line ≡ last_number 0 given
  pub extra : place.extra ≤ most_extra 0 given
  pub before : AreBefore (place.line + place.extra + 1) kept
  pub told : HasTaken old now front

none_before : AreBefore 1 []
none_before = record {
  sound = λ k d within. absurd (omega (arith, within));
  first = λ k d within. absurd (omega (arith, within));
  before = λ k d within. absurd (omega (arith, within));
  few = omega arith;
}

-- before the first batch
pub nothing_read_yet : (old : Option (List ℕ)) (place : Place) → place.line ≡ 0 → place.extra ≡ 0 → HasReadLog old old new_reading [] place 0
nothing_read_yet old place line extra =
    let start : place.line + place.extra + 1 ≡ 1 = omega (arith, line, extra) in
    record {
      front = [];
      long = refl;
      within = omega arith;
      given = [];
      continues = record { lines = λ more. refl; whole = λ more. refl; rest = λ more. refl; count = λ more. refl };
      held = record { rest = record { whole = refl; short = omega arith; all_given = λ over. absurd (let no : false ≡ true = over in cc) }; going = refl };
      takes = ap (λ e. Ok (log_state e [])) extra;
      line = line;
      extra = omega (arith, extra);
      before = subst (λ n. AreBefore n []) (sym start) none_before;
      told = taken_nothing old;
    }

pub nothing_read_from : (old : Option (List ℕ)) (reader : Reading) (kept : List Event) (place : Place) → reader ≡ new_reading → kept ≡ [] → place.line ≡ 0 → place.extra ≡ 0 → HasReadLog old old reader kept place 0
nothing_read_from old reader kept place fresh none line extra =
    subst (λ r. HasReadLog old old r kept place 0) (sym fresh) (subst (λ k. HasReadLog old old new_reading k place 0) (sym none) (nothing_read_yet old place line extra))

-- the lines of the bytes that were fed are those given, and more
fed_lines : (end : BatchEnd) (r b : Reading) (fed past : List ℕ) (given : List NumberedLine) (now : Option (List ℕ)) (taken : ℕ) → EndsBatch end r fed past given b now taken → (rest : List NumberedLine) × (lines_from r.number (r.pending ++ fed) ≡ given ++ rest)
fed_lines GoesOn r b fed past given now taken e = (lines_from b.number b.pending, waiting (fed_with r fed) b given e.0)
fed_lines Ended r b fed past given now taken e = ([], e.0 ∙ sym (append-nil given))
fed_lines Failed r b fed past given now taken e = (lines_from b.number b.pending, waiting (fed_with r fed) b given e.0)
fed_lines LineTooLong r b fed past given now taken e = (lines_from e.0.number e.0.pending, waiting (fed_with r fed) e.0 given e.1)
fed_lines InputTooLong r b fed past given now taken e = (lines_from b.number b.pending, waiting (fed_with r fed) b given e.0)

front_length : (front fed : List ℕ) (before taken : ℕ) → length front ≡ before → taken ≡ before + length fed → length (front ++ fed) ≡ taken
front_length front fed before taken long counted = let sum = length-append front fed in omega (arith, sum, long, counted)

-- the lines of all bytes so far
all_lines : (front : List ℕ) (r : Reading) (given : List NumberedLine) (fed : List ℕ) (more : List NumberedLine) → Continues (fed_with new_reading front) given r → lines_from r.number (r.pending ++ fed) ≡ more → lines_from 0 (front ++ fed) ≡ given ++ more
all_lines front r given fed more c is = c.lines fed ∙ ap (λ l. given ++ l) is

-- a batch has few lines
pub few_lines : (end : BatchEnd) (middle now : Option (List ℕ)) (r b : Reading) (given : List NumberedLine) (before taken : ℕ) → HoldsOpen r → Gathers end middle now r b given before taken 1376256 → length given < 2 ^ 32
few_lines end middle now r b given before taken held g =
    let fed = fed_lines end r b g.fed g.past given now taken g.lines in
    let numbers = few_numbers (r.pending ++ g.fed) in
    let count = few_given r.number (lines_of (r.pending ++ g.fed)) in
    let sum = length-append r.pending g.fed in
    let sum' = length-append given fed.0 in
    let sum'' = length-append g.fed g.past in
    let same : length (lines_from r.number (r.pending ++ g.fed)) ≡ length (given ++ fed.0) = ap length fed.1 in
    let few = g.few in
    let short = held.rest.short in
    omega (arith, numbers, count, sum, sum', sum'', same, few, short)

-- its lines have numbers behind those that were taken
batch_ordered : (end : BatchEnd) (old middle now : Option (List ℕ)) (r b : Reading) (kept : List Event) (place : Place) (given : List NumberedLine) (before taken : ℕ) → HasReadLog old middle r kept place before → Gathers end middle now r b given before taken 1376256 → AreOrdered place.line place.extra given
batch_ordered end old middle now r b kept place given before taken s g =
    let fed = fed_lines end r b g.fed g.past given now taken g.lines in
    let rest = fed.0 in
    let all : lines_from 0 (s.front ++ g.fed) ≡ s.given ++ (given ++ rest) = all_lines s.front r s.given g.fed (given ++ rest) s.continues fed.1 in
    let long = front_length s.front g.fed before taken s.long g.counted in
    let most = few_numbers (s.front ++ g.fed) in
    let w = g.within in
    let ordered : AreOrdered 0 0 (lines_from 0 (s.front ++ g.fed)) = ordered_numbered 0 0 0 (lines_of (s.front ++ g.fed)) (omega arith) (omega (arith, most, long, w)) in
    let behind = ordered_behind 0 0 s.given (given ++ rest) (subst (AreOrdered 0 0) all ordered) in
    let less : AreOrdered (last_number 0 s.given) place.extra (given ++ rest) = ordered_less (last_number 0 s.given) (most_extra 0 s.given) place.extra (given ++ rest) s.extra behind in
    subst (λ n. AreOrdered n place.extra given) (sym s.line) (ordered_front (last_number 0 s.given) place.extra given rest less)

-- the lines of the bytes so far, once those of the batch were taken
both_take : (given given' : List NumberedLine) (place place' : Place) (kept kept' : List Event) → TakesLines nothing_read given (Ok (log_state place.extra kept)) → TakesLines (log_state place.extra kept) given' (Ok (log_state place'.extra kept')) → TakesLines nothing_read (given ++ given') (Ok (log_state place'.extra kept'))
both_take given given' place place' kept kept' first second = in_order_then TakesLine nothing_read (log_state place.extra kept) given given' (Ok (log_state place'.extra kept')) first second

both_refuse : (given given' : List NumberedLine) (place : Place) (kept : List Event) (why : LogStop) → TakesLines nothing_read given (Ok (log_state place.extra kept)) → TakesLines (log_state place.extra kept) given' (Err why) → TakesLines nothing_read (given ++ given') (Err why)
both_refuse given given' place kept why first second = in_order_then TakesLine nothing_read (log_state place.extra kept) given given' (Err why) first second

-- what was taken so far, all told
told_all : (old middle now : Option (List ℕ)) (front fed past : List ℕ) → HasTaken old middle front → HasTaken middle now (fed ++ past) → HasTaken old now ((front ++ fed) ++ past)
told_all old middle now front fed past first second =
    taken_as old now (front ++ (fed ++ past)) ((front ++ fed) ++ past) (sym (append_assoc front fed past)) (taken_then old middle now front (fed ++ past) first second)

unpast : (front fed past : List ℕ) → past ≡ [] → (front ++ fed) ++ past ≡ front ++ fed
unpast front fed past none = ap (λ l. (front ++ fed) ++ l) none ∙ append-nil (front ++ fed)

-- a batch more was read
pub batch_read : (old middle now : Option (List ℕ)) (r b : Reading) (kept kept' : List Event) (place place' : Place) (given : List NumberedLine) (before taken : ℕ) → (s : HasReadLog old middle r kept place before) → (g : Gathers GoesOn middle now r b given before taken 1376256)
    → TakesLines (log_state place.extra kept) given (Ok (log_state place'.extra kept')) → place'.line ≡ last_number place.line given → place'.extra ≤ most_extra place.extra given → AreBefore (place'.line + place'.extra + 1) kept' → HasReadLog old now b kept' place' taken
batch_read old middle now r b kept kept' place place' given before taken s g takes line extra are =
    let grown = most_extra_less (most_extra 0 s.given) place.extra given s.extra in
    let whole = most_extra-append 0 s.given given in
    record {
      front = s.front ++ g.fed;
      long = front_length s.front g.fed before taken s.long g.counted;
      within = g.within;
      given = s.given ++ given;
      continues = continues_then new_reading r b s.front g.fed s.given given s.continues g.lines.0;
      held = g.lines.1;
      takes = both_take s.given given place place' kept kept' s.takes takes;
      line = line ∙ ap (λ n. last_number n given) s.line ∙ sym (last_number-append 0 s.given given);
      extra = omega (arith, extra, grown, whole);
      before = are;
      told = taken_as old now ((s.front ++ g.fed) ++ g.past) (s.front ++ g.fed) (unpast s.front g.fed g.past g.lines.2) (told_all old middle now s.front g.fed g.past s.told g.told);
    }

-- the front and a batch, in front of what is left
log_bytes : (bytes front fed past behind : List ℕ) → bytes ≡ ((front ++ fed) ++ past) ++ behind → bytes ≡ (front ++ fed) ++ (past ++ behind)
log_bytes bytes front fed past behind is = is ∙ append_assoc (front ++ fed) past behind

-- lines of a batch refuse
batch_front : (end : BatchEnd) (now : Option (List ℕ)) (r b : Reading) (kept : List Event) (place : Place) (front fed past behind bytes : List ℕ) (before given : List NumberedLine) (taken : ℕ) (why : LogStop) → Continues (fed_with new_reading front) before r → EndsBatch end r fed past given b now taken
    → TakesLines nothing_read (before ++ given) (Err why) → length (front ++ fed) ≤ 1099511627776 → bytes ≡ (front ++ fed) ++ (past ++ behind) → (IsAtEnd now → past ≡ [] → bytes ≡ front ++ fed) → IsLogRead bytes (Err why)
batch_front GoesOn now r b kept place front fed past behind bytes before given taken why c e refused within is all =
    log_refused bytes (front ++ fed) (past ++ behind) why is within (given_refuse (front ++ fed) b (before ++ given) why (continues_then new_reading r b front fed before given c e.0) refused)
batch_front Ended now r b kept place front fed past behind bytes before given taken why c e refused within is all =
    subst (λ l. IsLogRead l (Err why)) (sym (all e.2 e.1)) (log_whole (front ++ fed) (before ++ given) (Err why) within (all_lines front r before fed given c e.0) refused)
batch_front Failed now r b kept place front fed past behind bytes before given taken why c e refused within is all =
    log_refused bytes (front ++ fed) (past ++ behind) why is within (given_refuse (front ++ fed) b (before ++ given) why (continues_then new_reading r b front fed before given c e.0) refused)
batch_front LineTooLong now r b kept place front fed past behind bytes before given taken why c e refused within is all =
    log_refused bytes (front ++ fed) (past ++ behind) why is within (given_refuse (front ++ fed) e.0 (before ++ given) why (continues_then new_reading r e.0 front fed before given c e.1) refused)
batch_front InputTooLong now r b kept place front fed past behind bytes before given taken why c e refused within is all =
    log_refused bytes (front ++ fed) (past ++ behind) why is within (given_refuse (front ++ fed) b (before ++ given) why (continues_then new_reading r b front fed before given c e.0) refused)

pub batch_refused : (end : BatchEnd) (old middle now : Option (List ℕ)) (r b : Reading) (kept : List Event) (place : Place) (given : List NumberedLine) (before taken : ℕ) (why : LogStop) (bytes : List ℕ) → HasReadLog old middle r kept place before → Gathers end middle now r b given before taken 1376256
    → TakesLines (log_state place.extra kept) given (Err why) → old ≡ Some bytes → IsLogRead bytes (Err why)
batch_refused end old middle now r b kept place given before taken why bytes s g refused told =
    let h = told_all old middle now s.front g.fed g.past s.told g.told in
    let all = h bytes told in
    let long = front_length s.front g.fed before taken s.long g.counted in
    let w = g.within in
    batch_front end now r b kept place s.front g.fed g.past all.0 bytes s.given given taken why s.continues g.lines (both_refuse s.given given place kept why s.takes refused) (omega (arith, long, w)) (log_bytes bytes s.front g.fed g.past all.0 all.2)
    (λ end none. taken_all old now (s.front ++ g.fed) bytes (taken_as old now ((s.front ++ g.fed) ++ g.past) (s.front ++ g.fed) (unpast s.front g.fed g.past none) h) told end)

-- the log ended behind the batch
pub batch_ended : (old middle now : Option (List ℕ)) (r b : Reading) (kept kept' : List Event) (place place' : Place) (given : List NumberedLine) (before taken : ℕ) (bytes : List ℕ) → HasReadLog old middle r kept place before → Gathers Ended middle now r b given before taken 1376256
    → TakesLines (log_state place.extra kept) given (Ok (log_state place'.extra kept')) → old ≡ Some bytes → IsLogRead bytes (Ok kept')
batch_ended old middle now r b kept kept' place place' given before taken bytes s g takes told =
    let h = told_all old middle now s.front g.fed g.past s.told g.told in
    let all = taken_all old now (s.front ++ g.fed) bytes (taken_as old now ((s.front ++ g.fed) ++ g.past) (s.front ++ g.fed) (unpast s.front g.fed g.past g.lines.1) h) told g.lines.2 in
    let long = front_length s.front g.fed before taken s.long g.counted in
    let w = g.within in
    subst (λ l. IsLogRead l (Ok kept')) (sym all)
    (log_whole (s.front ++ g.fed) (s.given ++ given) (Ok (log_state place'.extra kept')) (omega (arith, long, w)) (all_lines s.front r s.given g.fed given s.continues g.lines.0) (both_take s.given given place place' kept kept' s.takes takes))

-- a line behind the batch is too long
pub batch_line_long : (old middle now : Option (List ℕ)) (r b : Reading) (kept kept' : List Event) (place place' : Place) (given : List NumberedLine) (before taken : ℕ) (bytes : List ℕ) → HasReadLog old middle r kept place before → Gathers LineTooLong middle now r b given before taken 1376256
    → TakesLines (log_state place.extra kept) given (Ok (log_state place'.extra kept')) → old ≡ Some bytes → IsLogRead bytes (Err stop.LineTooLong)
batch_line_long old middle now r b kept kept' place place' given before taken bytes s g takes told =
    let all = told_all old middle now s.front g.fed g.past s.told g.told bytes told in
    let long = front_length s.front g.fed before taken s.long g.counted in
    let w = g.within in
    let e = g.lines in
    log_refused bytes (s.front ++ g.fed) (g.past ++ all.0) stop.LineTooLong (log_bytes bytes s.front g.fed g.past all.0 all.2) (omega (arith, long, w))
    (long_refuses (s.front ++ g.fed) e.0 (s.given ++ given) (log_state place'.extra kept') e.2.0 (continues_then new_reading r e.0 s.front g.fed s.given given s.continues e.1) (both_take s.given given place place' kept kept' s.takes takes) e.2.1)

-- the batch passes the limit
pub batch_past : (old middle now : Option (List ℕ)) (r b : Reading) (kept kept' : List Event) (place place' : Place) (given : List NumberedLine) (before taken : ℕ) (bytes : List ℕ) → HasReadLog old middle r kept place before → Gathers InputTooLong middle now r b given before taken 1376256
    → TakesLines (log_state place.extra kept) given (Ok (log_state place'.extra kept')) → old ≡ Some bytes → IsLogRead bytes (Err stop.TooLong)
batch_past old middle now r b kept kept' place place' given before taken bytes s g takes told =
    let all = told_all old middle now s.front g.fed g.past s.told g.told bytes told in
    let long = front_length s.front g.fed before taken s.long g.counted in
    let e = g.lines in
    let some = e.2 in
    let sum = length-append g.past all.0 in
    log_past bytes (s.front ++ g.fed) (g.past ++ all.0) (s.given ++ given) b (log_state place'.extra kept') (log_bytes bytes s.front g.fed g.past all.0 all.2) (long ∙ e.3) (omega (arith, sum, some))
    (continues_then new_reading r b s.front g.fed s.given given s.continues e.0) e.1.rest (both_take s.given given place place' kept kept' s.takes takes)

pub front_so_far : (old now : Option (List ℕ)) (r : Reading) (kept : List Event) (place : Place) (taken : ℕ) → (s : HasReadLog old now r kept place taken) → HoldsNoRefusal s.front
front_so_far old now r kept place taken s =
    let long = s.long in
    let w = s.within in
    front_holds s.front s.given r (log_state place.extra kept) s.continues s.held.rest s.takes (omega (arith, long, w))

-- what was taken, wherever the batch stops
pub takes_batch : (end : BatchEnd) (old middle now : Option (List ℕ)) (r b : Reading) (kept : List Event) (place : Place) (given : List NumberedLine) (before taken : ℕ) (failed : Type 0) → (s : HasReadLog old middle r kept place before) → (g : Gathers end middle now r b given before taken 1376256)
    → (failed → HoldsNoRefusal (s.front ++ (g.fed ++ g.past))) → TakesLog old now failed
takes_batch end old middle now r b kept place given before taken failed s g fine =
    let sum = length-append s.front (g.fed ++ g.past) in
    let sum' = length-append g.fed g.past in
    let long = s.long in
    let counted = g.counted in
    let w = g.within in
    let piece = g.piece in
    record {
      front = s.front;
      batch = g.fed ++ g.past;
      taken = taken_then old middle now s.front (g.fed ++ g.past) s.told g.told;
      kept = front_so_far old middle r kept place before s;
      short = (let few = g.few in omega (arith, few));
      within = rw (← limit_is) (omega (arith, sum, sum', long, counted, w, piece));
      blameless = fine;
    }

-- a read failed behind the batch, whose lines were taken
pub takes_failed : (old middle now : Option (List ℕ)) (r b : Reading) (kept kept' : List Event) (place place' : Place) (given : List NumberedLine) (before taken : ℕ) (failed : Type 0) → HasReadLog old middle r kept place before → Gathers Failed middle now r b given before taken 1376256
    → TakesLines (log_state place.extra kept) given (Ok (log_state place'.extra kept')) → TakesLog old now failed
takes_failed old middle now r b kept kept' place place' given before taken failed s g takes =
    let long = front_length s.front g.fed before taken s.long g.counted in
    let w = g.within in
    let holds : HoldsNoRefusal (s.front ++ g.fed) =
    front_holds (s.front ++ g.fed) (s.given ++ given) b (log_state place'.extra kept') (continues_then new_reading r b s.front g.fed s.given given s.continues g.lines.0) g.lines.1.rest (both_take s.given given place place' kept kept' s.takes takes) (omega (arith, long, w)) in
    takes_batch Failed old middle now r b kept place given before taken failed s g (λ _. subst HoldsNoRefusal (ap (λ l. s.front ++ l) (sym (append-nil g.fed) ∙ ap (λ l. g.fed ++ l) (sym g.lines.2))) holds)

-- the log ended behind the batch, whose lines were taken
pub takes_ended : (old middle now : Option (List ℕ)) (r b : Reading) (kept kept' : List Event) (place place' : Place) (given : List NumberedLine) (before taken : ℕ) (fine : Type 0) → HasReadLog old middle r kept place before → Gathers Ended middle now r b given before taken 1376256
    → TakesLines (log_state place.extra kept) given (Ok (log_state place'.extra kept')) → TakesLog old now fine
takes_ended old middle now r b kept kept' place place' given before taken fine s g takes =
    let long = front_length s.front g.fed before taken s.long g.counted in
    let w = g.within in
    let holds : HoldsNoRefusal (s.front ++ g.fed) =
    log_holds (s.front ++ g.fed) (s.given ++ given) (log_state place'.extra kept') (all_lines s.front r s.given g.fed given s.continues g.lines.0) (both_take s.given given place place' kept kept' s.takes takes) (omega (arith, long, w)) in
    takes_batch Ended old middle now r b kept place given before taken fine s g (λ _. subst HoldsNoRefusal (ap (λ l. s.front ++ l) (sym (append-nil g.fed) ∙ ap (λ l. g.fed ++ l) (sym g.lines.1))) holds)

-- want of memory amid a batch
pub takes_some : (old middle now : Option (List ℕ)) (r : Reading) (kept : List Event) (place : Place) (before : ℕ) (failed : Type 0) → HasReadLog old middle r kept place before → TakesSome middle now before 4259840 → (failed → ⊥) → TakesLog old now failed
takes_some old middle now r kept place before failed s g fine =
    let sum = length-append s.front g.taken in
    let long = s.long in
    let w = g.within in
    record {
      front = s.front;
      batch = g.taken;
      taken = taken_then old middle now s.front g.taken s.told g.told;
      kept = front_so_far old middle r kept place before s;
      short = g.few;
      within = rw (← limit_is) (omega (arith, sum, long, w));
      blameless = λ no. absurd (fine no);
    }

-- before any read
pub takes_nothing : (old : Option (List ℕ)) (failed : Type 0) → TakesLog old old failed
takes_nothing old failed =
    let holds : HoldsNoRefusal [] = record { state = nothing_read; lines = refl; short = omega arith; within = rw (← limit_is) (omega arith) } in
    record {
      front = [];
      batch = [];
      taken = taken_nothing old;
      kept = holds;
      short = omega arith;
      within = rw (← limit_is) (omega arith);
      blameless = λ _. holds;
    }

-- what those who take the events may rest on
pub log_events : (end : BatchEnd) (old middle now : Option (List ℕ)) (r b : Reading) (kept events : List Event) (place place' : Place) (given : List NumberedLine) (before taken : ℕ) → HasReadLog old middle r kept place before → Gathers end middle now r b given before taken 1376256
    → place'.line ≡ last_number place.line given → place'.extra ≤ most_extra place.extra given → AreBefore (place'.line + place'.extra + 1) events → AreKept events → AreLogEvents events
log_events end old middle now r b kept events place place' given before taken s g line extra are kept_are =
    let fed = fed_lines end r b g.fed g.past given now taken g.lines in
    let all : lines_from 0 (s.front ++ g.fed) ≡ s.given ++ (given ++ fed.0) = all_lines s.front r s.given g.fed (given ++ fed.0) s.continues fed.1 in
    let long = front_length s.front g.fed before taken s.long g.counted in
    let most = few_numbers (s.front ++ g.fed) in
    let w = g.within in
    let ordered : AreOrdered 0 0 (lines_from 0 (s.front ++ g.fed)) = ordered_numbered 0 0 0 (lines_of (s.front ++ g.fed)) (omega arith) (omega (arith, most, long, w)) in
    let front : AreOrdered 0 0 (s.given ++ given) = ordered_front 0 0 (s.given ++ given) fed.0 (subst (AreOrdered 0 0) (all ∙ sym (append_assoc s.given given fed.0)) ordered) in
    let bound = ordered_within 0 0 (s.given ++ given) (omega arith) front in
    let number : place'.line ≡ last_number 0 (s.given ++ given) = line ∙ ap (λ n. last_number n given) s.line ∙ sym (last_number-append 0 s.given given) in
    let grown = most_extra_less (most_extra 0 s.given) place.extra given s.extra in
    let whole = most_extra-append 0 s.given given in
    record {
      sound = are.sound;
      rise = kept_are.rise;
      distinct = kept_are.distinct;
      first = are.first;
      last = λ k d within. let below = are.before k d within in omega (arith, below, bound, number, grown, whole, extra);
      few = are.few;
    }

-- what the keeping of a batch may rest on, whose lines are those of a slice
pub batch_next : (end : BatchEnd) (old middle now : Option (List ℕ)) (r b : Reading) (kept : List Event) (place : Place) (lines slice : List Line) (before taken : ℕ) → HasReadLog old middle r kept place before → Gathers end middle now r b (line_values lines) before taken 1376256 → slice ≡ lines → AreNext slice place kept
batch_next end old middle now r b kept place lines slice before taken s g is =
    subst (λ l. AreNext l place kept) (sym is) record { short = g.short; ordered = batch_ordered end old middle now r b kept place (line_values lines) before taken s g; before = s.before }
