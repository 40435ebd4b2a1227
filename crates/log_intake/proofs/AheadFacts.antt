-- The batch that is kept, the one that is decoded meanwhile, and the one that is gathered.
use Rattle.std.proofs.Common.{◌≡◌, ℕ, ◌+◌, ◌-◌, ◌*◌, ◌^◌, ◌<◌, ◌≤◌, ◌⊎◌, inl, inr, List, [], ◌++◌, length, Option, Result, Ok, Err, IsOk, IsErr, false, true, refl, sym, ◌∙◌, ap, subst, arith}
use Rattle.std.specs.List.{AllZip}
use Rattle.std.proofs.lemmas.List.{append-nil, length-append, length-map}
use Rattle.std.proofs.lemmas.Result.{IfOk-at_ok}
use Rattle.edge_io.specs.Faults.{Rose}
use Rattle.edge_io.proofs.TakenFacts.{taken_then}
use Rattle.base_types.specs.declared.foundation.memory.OutOfMemory.{OutOfMemory}
use Rattle.audit_event.specs.declared.event.Event.{Event}
use Rattle.audit_event.specs.Keeping.{AreKept}
use Rattle.batch_decode.specs.declared.decoded.Decoded.{Decoded}
use Rattle.batch_decode.specs.Batches.{IsDecodedLine}
use Rattle.line_reader.specs.declared.line.Line.{Line}
use Rattle.line_reader.specs.Lines.{NumberedLine}
use Rattle.line_reader.specs.Reading.{Reading, line_value}
use Rattle.log_intake.specs.declared.keeping.DecodedBatch.{DecodedBatch}
use Rattle.log_intake.specs.declared.keeping.Place.{Place}
use Rattle.log_intake.specs.declared.batch.Batch.{Batch}
use Rattle.log_intake.specs.declared.batch.BatchEnd.{BatchEnd}
use Rattle.log_intake.specs.declared.batch.BatchEnd.TheVariants.{GoesOn, Ended, Failed, LineTooLong, InputTooLong}
use Rattle.log_intake.specs.declared.stop.LogStop.{LogStop}
use Rattle.log_intake.specs.declared.stop.LogStop.TheVariants as stop
use Rattle.log_intake.specs.Keeping.{KeepsAndDecodes, KeepsBoth, KeepsLines, AreLinesKept, AreNext, AreNextBehind}
use Rattle.log_intake.specs.Batches.{Gathers, GathersBatch, HoldsOpen, IsStopAt, TakesSome, line_values}
use Rattle.log_intake.specs.Taking.{ReadsLog, TakesLog}
use Rattle.log_intake.proofs.BatchFacts.{gathers_nothing}
use Rattle.log_intake.proofs.AnswerFacts.{reads_ended, reads_failed, reads_long, reads_on, reads_past, reads_refused, reads_some, refused_bytes}
use Rattle.log_intake.proofs.LogFacts.{HasReadLog, batch_next, batch_refused, few_lines, front_so_far}
use Rattle.log_intake.proofs.ReadFacts.{limit_is}

-- the lines in front of a batch were kept, and it was gathered
pub record HasGathered (old now : Option (List ℕ)) (faults faults' : ℕ) (reader' : Reading) (kept : List Event) (place : Place) (batch : Batch) : Type 0 where
  pub middle : Option (List ℕ)
  pub reader : Reading
  pub before : ℕ
  pub read : HasReadLog old middle reader kept place before
  pub gathers : Gathers batch.end middle now reader reader' (line_values batch.lines.items) before batch.taken 1376256
  pub fault : batch.end ≡ Failed → Rose faults faults'
  pub counted : faults ≤ faults'

-- the lines in front of two batches were kept, and the first of them was decoded
pub record HasDecoded (old now : Option (List ℕ)) (faults faults' : ℕ) (reader' : Reading) (kept : List Event) (place : Place) (held : DecodedBatch) (batch : Batch) : Type 0 where
  pub middle : Option (List ℕ)
  pub reader : Reading
  pub before : ℕ
  pub read : HasReadLog old middle reader kept place before
  pub between : Option (List ℕ)
  pub behind : Reading
  pub at : ℕ
  pub first : Gathers GoesOn middle between reader behind (line_values held.lines.items) before at 1376256
  pub decodes : AllZip IsDecodedLine held.lines.items held.decoded
  pub gathers : Gathers batch.end between now behind reader' (line_values batch.lines.items) at batch.taken 1376256
  pub fault : batch.end ≡ Failed → Rose faults faults'
  pub counted : faults ≤ faults'

none_decoded : (lines : List Line) (decoded : List Decoded) → lines ≡ [] → decoded ≡ [] → AllZip IsDecodedLine lines decoded
none_decoded lines decoded none none' = subst (λ l. AllZip IsDecodedLine l decoded) (sym none) (subst (λ d. AllZip IsDecodedLine [] d) (sym none') tt)

-- the first batch was gathered, and none was decoded
pub decoded_first : (left left' : List ℕ → Option (List ℕ)) (name : List ℕ) (faults faults' : ℕ) (r b : Reading) (kept : List Event) (place : Place) (held : DecodedBatch) (batch : Batch) → HasReadLog (left name) (left name) r kept place 0 → GathersBatch left left' name faults faults' r b 0 (Ok batch)
    → held.lines.items ≡ [] → held.decoded ≡ [] → HasDecoded (left name) (left' name) faults faults' b kept place held batch
decoded_first left left' name faults faults' r b kept place held batch s g none none' = record {
  middle = left name;
  reader = r;
  before = 0;
  read = s;
  between = left name;
  behind = r;
  at = 0;
  first = subst (λ l. Gathers GoesOn (left name) (left name) r r (line_values l) 0 0 1376256) (sym none) (gathers_nothing (left name) r 0 1376256 (omega arith) s.held);
  decodes = none_decoded held.lines.items held.decoded none none';
  gathers = g.gathers;
  fault = g.fault;
  counted = g.counted;
}

-- where the log goes on only a line that has begun is left
open_at : (end : BatchEnd) (middle now : Option (List ℕ)) (r b : Reading) (given : List NumberedLine) (before taken : ℕ) → end ≡ GoesOn → Gathers end middle now r b given before taken 1376256 → HoldsOpen b
open_at end middle now r b given before taken on g =
    let here : Gathers GoesOn middle now r b given before taken 1376256 = subst (λ e. Gathers e middle now r b given before taken 1376256) on g in
    here.lines.1

pub decoded_open : (old now : Option (List ℕ)) (faults faults' : ℕ) (b : Reading) (kept : List Event) (place : Place) (held : DecodedBatch) (batch : Batch) → HasDecoded old now faults faults' b kept place held batch → batch.end ≡ GoesOn → HoldsOpen b
decoded_open old now faults faults' b kept place held batch h on = open_at batch.end h.between now h.behind b (line_values batch.lines.items) h.at batch.taken on h.gathers

pub decoded_within : (old now : Option (List ℕ)) (faults faults' : ℕ) (b : Reading) (kept : List Event) (place : Place) (held : DecodedBatch) (batch : Batch) → HasDecoded old now faults faults' b kept place held batch → batch.taken ≤ 1099511627776
decoded_within old now faults faults' b kept place held batch h = h.gathers.within

-- what the keeping of the one batch and the decoding of the other may rest on
pub decoded_next : (old now : Option (List ℕ)) (faults faults' : ℕ) (b : Reading) (kept : List Event) (place : Place) (held : DecodedBatch) (batch : Batch) → HasDecoded old now faults faults' b kept place held batch → AreNext held.lines.items place kept
decoded_next old now faults faults' b kept place held batch h = batch_next GoesOn old h.middle h.between h.reader h.behind kept place held.lines.items held.lines.items h.before h.at h.read h.first refl

pub decoded_few : (old now : Option (List ℕ)) (faults faults' : ℕ) (b : Reading) (kept : List Event) (place : Place) (held : DecodedBatch) (batch : Batch) (slice : List Line) → HasDecoded old now faults faults' b kept place held batch → slice ≡ batch.lines.items → length slice < 2 ^ 32
decoded_few old now faults faults' b kept place held batch slice h is =
    let few = few_lines batch.end h.between now h.behind b (line_values batch.lines.items) h.at batch.taken h.first.lines.1 h.gathers in
    let long = length-map batch.lines.items line_value in
    let same : length slice ≡ length batch.lines.items = ap length is in
    omega (arith, few, long, same)

-- what was taken for a batch
some_gathered : (end : BatchEnd) (middle now : Option (List ℕ)) (r b : Reading) (given : List NumberedLine) (before taken : ℕ) → Gathers end middle now r b given before taken 1376256 → TakesSome middle now before 1376256
some_gathered end middle now r b given before taken g =
    let sum = length-append g.fed g.past in
    let counted = g.counted in
    let w = g.within in
    let piece = g.piece in
    record {
      taken = g.fed ++ g.past;
      told = g.told;
      few = g.few;
      within = omega (arith, sum, counted, w, piece);
    }

-- whether it was gathered or not
some_ahead : (left left' : List ℕ → Option (List ℕ)) (name : List ℕ) (faults faults' : ℕ) (r b : Reading) (before : ℕ) (ahead : Result Batch OutOfMemory) → GathersBatch left left' name faults faults' r b before ahead → TakesSome (left name) (left' name) before 1376256
some_ahead left left' name faults faults' r b before (Ok batch) g = some_gathered batch.end (left name) (left' name) r b (line_values batch.lines.items) before batch.taken g.gathers
some_ahead left left' name faults faults' r b before (Err none) g = g.memory

pub some_within : (middle now : Option (List ℕ)) (before few many : ℕ) → few ≤ many → TakesSome middle now before few → TakesSome middle now before many
some_within middle now before few many less g =
    let short = g.few in
    record { taken = g.taken; told = g.told; few = omega (arith, less, short); within = g.within }

-- what was taken for two batches
some_both : (middle now next : Option (List ℕ)) (r b : Reading) (given : List NumberedLine) (before taken : ℕ) → Gathers GoesOn middle now r b given before taken 1376256 → TakesSome now next taken 1376256 → TakesSome middle next before 2752512
some_both middle now next r b given before taken g a =
    let first = g.fed ++ g.past in
    let sum = length-append first a.taken in
    let sum' : length first ≡ length g.fed = ap length (ap (λ l. g.fed ++ l) g.lines.2 ∙ append-nil g.fed) in
    let counted = g.counted in
    let few = g.few in
    let few' = a.few in
    let w = a.within in
    record {
      taken = first ++ a.taken;
      told = taken_then middle now next first a.taken g.told a.told;
      few = omega (arith, sum, few, few');
      within = omega (arith, sum, sum', counted, w);
    }

-- what was taken where a batch is refused, whatever was taken behind it
takes_ahead : (old middle now next : Option (List ℕ)) (r b : Reading) (kept : List Event) (place : Place) (lines : List Line) (before taken : ℕ) (fine : Type 0) → (s : HasReadLog old middle r kept place before) → Gathers GoesOn middle now r b (line_values lines) before taken 1376256 → TakesSome now next taken 2752512
    → (fine → ⊥) → TakesLog old next fine
takes_ahead old middle now next r b kept place lines before taken fine s g a never =
    let first = g.fed ++ g.past in
    let sum = length-append s.front (first ++ a.taken) in
    let sum' = length-append first a.taken in
    let sum'' : length first ≡ length g.fed = ap length (ap (λ l. g.fed ++ l) g.lines.2 ∙ append-nil g.fed) in
    let long = s.long in
    let counted = g.counted in
    let few = g.few in
    let few' = a.few in
    let w = a.within in
    record {
      front = s.front;
      batch = first ++ a.taken;
      taken = taken_then old middle next s.front (first ++ a.taken) s.told (taken_then middle now next first a.taken g.told a.told);
      kept = front_so_far old middle r kept place before s;
      short = omega (arith, sum', few, few');
      within = rw (← limit_is) (omega (arith, sum, sum', sum'', long, counted, w));
      blameless = λ is. absurd (never is);
    }

-- the batch that was decoded is refused, whatever came behind it
refused_ahead : (old now next : Option (List ℕ)) (faults middle faults' : ℕ) (b : Reading) (kept kept' : List Event) (place : Place) (held : DecodedBatch) (batch : Batch) (why : LogStop) → (h : HasDecoded old now faults middle b kept place held batch) → TakesSome h.between next h.at 2752512
    → KeepsLines held.lines.items place kept kept' (Err why) → faults ≤ faults' → ReadsLog old next faults faults' (Err why)
refused_ahead old now next faults middle faults' b kept kept' place held batch why h a keeps counted =
    let no_fault : why ≡ stop.ReadFault → ⊥ = λ same. keeps.no_fault (ap Err same) in
    record {
      answers = λ bytes told refusal. batch_refused GoesOn old h.middle h.between h.reader h.behind kept place (line_values held.lines.items) h.before h.at why bytes h.read h.first (keeps.refused refusal) told;
      sound = tt;
      whole = tt;
      fault = λ same. absurd (no_fault (let here : why ≡ stop.ReadFault = cc in here));
      counted = counted;
      taken = takes_ahead old h.middle h.between next h.reader h.behind kept place held.lines.items h.before h.at _ h.read h.first a (refused_bytes why no_fault);
    }

-- the batch that was decoded was kept
held_read : (old now : Option (List ℕ)) (faults faults' : ℕ) (b : Reading) (kept kept' : List Event) (place place' : Place) (held : DecodedBatch) (batch : Batch) → (h : HasDecoded old now faults faults' b kept place held batch) → AreLinesKept held.lines.items place place' kept kept' → HasReadLog old h.between h.behind kept' place' h.at
held_read old now faults faults' b kept kept' place place' held batch h all = reads_on GoesOn old h.middle h.between h.reader h.behind kept kept' place place' held.lines.items held.lines.items h.before h.at refl h.read h.first refl all

behind_held : (old now : Option (List ℕ)) (faults faults' : ℕ) (b : Reading) (kept kept' : List Event) (place place' : Place) (held : DecodedBatch) (batch : Batch) → HasDecoded old now faults faults' b kept place held batch → AreLinesKept held.lines.items place place' kept kept' → HasGathered old now faults faults' b kept' place' batch
behind_held old now faults faults' b kept kept' place place' held batch h all = record {
  middle = h.between;
  reader = h.behind;
  before = h.at;
  read = held_read old now faults faults' b kept kept' place place' held batch h all;
  gathers = h.gathers;
  fault = h.fault;
  counted = h.counted;
}

-- it was kept, and memory is wanted for what is behind it
memory_ahead : (old now next : Option (List ℕ)) (faults middle faults' : ℕ) (b : Reading) (kept kept' : List Event) (place : Place) (held : DecodedBatch) (batch : Batch) (keeping : Result Place LogStop) → (h : HasDecoded old now faults middle b kept place held batch) → TakesSome h.between next h.at 2752512
    → IsOk keeping → KeepsLines held.lines.items place kept kept' keeping → faults ≤ faults' → ReadsLog old next faults faults' (Err stop.OutOfMemory)
memory_ahead old now next faults middle faults' b kept kept' place held batch (Ok after) h a ok keeps counted =
    reads_some old h.between next faults faults' h.behind kept' after h.at (held_read old now faults middle b kept kept' place after held batch h keeps.all) (some_within h.between next h.at 2752512 4259840 (omega arith) a) counted
memory_ahead old now next faults middle faults' b kept kept' place held batch (Err why) h a ok keeps counted = absurd (let no : false ≡ true = ok in cc)

-- what was taken behind the batch that was decoded
some_behind : (old : Option (List ℕ)) (left left' : List ℕ → Option (List ℕ)) (name : List ℕ) (faults middle faults' : ℕ) (b c : Reading) (kept : List Event) (place : Place) (held : DecodedBatch) (batch : Batch) (ahead : Result Batch OutOfMemory)
    → batch.end ≡ GoesOn → (h : HasDecoded old (left name) faults middle b kept place held batch) → GathersBatch left left' name middle faults' b c batch.taken ahead → TakesSome h.between (left' name) h.at 2752512
some_behind old left left' name faults middle faults' b c kept place held batch ahead on h g =
    some_both h.between (left name) (left' name) h.behind b (line_values batch.lines.items) h.at batch.taken
    (subst (λ e. Gathers e h.between (left name) h.behind b (line_values batch.lines.items) h.at batch.taken 1376256) on h.gathers)
    (some_ahead left left' name middle faults' b c batch.taken ahead g)

-- what stops a log while a batch is gathered
pub decoded_stops : (old : Option (List ℕ)) (left left' : List ℕ → Option (List ℕ)) (name : List ℕ) (faults middle faults' : ℕ) (b c : Reading) (kept kept' : List Event) (place : Place) (held : DecodedBatch) (batch : Batch) (next : List Line) (keeping : Result Place LogStop) (decoded : Result (List Decoded) OutOfMemory)
    → (ahead : Result Batch OutOfMemory) (why : LogStop) → batch.end ≡ GoesOn → HasDecoded old (left name) faults middle b kept place held batch → KeepsAndDecodes held.lines.items next place kept kept' keeping decoded → GathersBatch left left' name middle faults' b c batch.taken ahead
    → (keeping ≡ Err why) ⊎ (IsOk keeping × (IsErr decoded ⊎ IsErr ahead) × (why ≡ stop.OutOfMemory)) → ReadsLog old (left' name) faults faults' (Err why)
decoded_stops old left left' name faults middle faults' b c kept kept' place held batch next keeping decoded ahead why on h front g (inl is) =
    let before = h.counted in
    let more = g.counted in
    refused_ahead old (left name) (left' name) faults middle faults' b kept kept' place held batch why h (some_behind old left left' name faults middle faults' b c kept place held batch ahead on h g)
    (subst (KeepsLines held.lines.items place kept kept') is front.keeps) (omega (arith, before, more))
decoded_stops old left left' name faults middle faults' b c kept kept' place held batch next keeping decoded ahead why on h front g (inr (ok, none, is)) =
    let before = h.counted in
    let more = g.counted in
    subst (λ w. ReadsLog old (left' name) faults faults' (Err w)) (sym is)
    (memory_ahead old (left name) (left' name) faults middle faults' b kept kept' place held batch keeping h (some_behind old left left' name faults middle faults' b c kept place held batch ahead on h g) ok front.keeps (omega (arith, before, more)))

-- a batch was kept, the next one decoded, and the one behind it gathered
pub decoded_on : (old : Option (List ℕ)) (left left' : List ℕ → Option (List ℕ)) (name : List ℕ) (faults middle faults' : ℕ) (b c : Reading) (kept kept' : List Event) (place place' : Place) (held held' : DecodedBatch) (batch next : Batch) (list : List Decoded) (keeping : Result Place LogStop)
    → (decoded : Result (List Decoded) OutOfMemory) (ahead : Result Batch OutOfMemory) → batch.end ≡ GoesOn → HasDecoded old (left name) faults middle b kept place held batch → KeepsAndDecodes held.lines.items batch.lines.items place kept kept' keeping decoded → GathersBatch left left' name middle faults' b c batch.taken ahead
    → held'.lines.items ≡ batch.lines.items → held'.decoded ≡ list → (keeping ≡ Ok place') × (decoded ≡ Ok list) × (ahead ≡ Ok next) → HasDecoded old (left' name) faults faults' c kept' place' held' next
decoded_on old left left' name faults middle faults' b c kept kept' place place' held held' batch next list keeping decoded ahead on h front g lines listed all =
    let keeps : AreLinesKept held.lines.items place place' kept kept' = IfOk-at_ok (λ after. AreLinesKept held.lines.items place after kept kept') all.0 front.keeps.all in
    let a : GathersBatch left left' name middle faults' b c batch.taken (Ok next) = subst (GathersBatch left left' name middle faults' b c batch.taken) all.2 g in
    let zip : AllZip IsDecodedLine batch.lines.items list = IfOk-at_ok (AllZip IsDecodedLine batch.lines.items) all.1 front.decodes in
    let before = h.counted in
    let more = a.counted in
    record {
      middle = h.between;
      reader = h.behind;
      before = h.at;
      read = held_read old (left name) faults middle b kept kept' place place' held batch h keeps;
      between = left name;
      behind = b;
      at = batch.taken;
      first = subst (λ l. Gathers GoesOn h.between (left name) h.behind b (line_values l) h.at batch.taken 1376256) (sym lines)
          (subst (λ e. Gathers e h.between (left name) h.behind b (line_values batch.lines.items) h.at batch.taken 1376256) on h.gathers);
      decodes = subst (λ l. AllZip IsDecodedLine l held'.decoded) (sym lines) (subst (AllZip IsDecodedLine batch.lines.items) (sym listed) zip);
      gathers = a.gathers;
      fault = λ failed. (let rose = a.fault failed in omega (arith, before, rose));
      counted = omega (arith, before, more);
    }

-- what the keeping of the last batch may rest on
gathered_next : (old now : Option (List ℕ)) (faults faults' : ℕ) (b : Reading) (kept : List Event) (place : Place) (batch : Batch) (slice : List Line) → HasGathered old now faults faults' b kept place batch → slice ≡ batch.lines.items → AreNext slice place kept
gathered_next old now faults faults' b kept place batch slice h is = batch_next batch.end old h.middle now h.reader b kept place batch.lines.items slice h.before batch.taken h.read h.gathers is

pub decoded_behind : (old now : Option (List ℕ)) (faults faults' : ℕ) (b : Reading) (kept : List Event) (place : Place) (held : DecodedBatch) (batch : Batch) (slice : List Line) → HasDecoded old now faults faults' b kept place held batch → slice ≡ batch.lines.items → AreNextBehind held.lines.items slice place kept
decoded_behind old now faults faults' b kept place held batch slice h is = λ place' kept' all. gathered_next old now faults faults' b kept' place' batch slice (behind_held old now faults faults' b kept kept' place place' held batch h all) is

-- a batch goes on, or is the last
abbrev pub goes : BatchEnd → ℕ
goes GoesOn = 1
goes Ended = 0
goes Failed = 0
goes LineTooLong = 0
goes InputTooLong = 0

fewer : (e : BatchEnd) (taken taken' : ℕ) → (e ≡ GoesOn → taken < taken') → taken ≤ taken' → taken' ≤ 1099511627776 → 2 * (1099511627776 - taken') + goes e < 2 * (1099511627776 - taken) + 1
fewer GoesOn taken taken' more all within = let strict = more refl in omega (arith, strict, within)
fewer Ended taken taken' more all within = omega (arith, all, within)
fewer Failed taken taken' more all within = omega (arith, all, within)
fewer LineTooLong taken taken' more all within = omega (arith, all, within)
fewer InputTooLong taken taken' more all within = omega (arith, all, within)

-- less of the log is left behind the next batch
pub fewer_left : (left left' : List ℕ → Option (List ℕ)) (name : List ℕ) (faults faults' : ℕ) (b c : Reading) (batch next : Batch) (ahead : Result Batch OutOfMemory) → batch.end ≡ GoesOn → GathersBatch left left' name faults faults' b c batch.taken ahead → ahead ≡ Ok next
    → 2 * (1099511627776 - next.taken) + goes next.end < 2 * (1099511627776 - batch.taken) + goes batch.end
fewer_left left left' name faults faults' b c batch next ahead on g is =
    let a : GathersBatch left left' name faults faults' b c batch.taken (Ok next) = subst (GathersBatch left left' name faults faults' b c batch.taken) is g in
    let counted = a.gathers.counted in
    subst (λ e. 2 * (1099511627776 - next.taken) + goes next.end < 2 * (1099511627776 - batch.taken) + goes e) (sym on)
    (fewer next.end batch.taken next.taken a.more (omega (arith, counted)) a.gathers.within)

-- the last batch is refused
gathered_refused : (old now : Option (List ℕ)) (faults faults' : ℕ) (b : Reading) (kept kept' : List Event) (place : Place) (batch : Batch) (slice : List Line) (why : LogStop) → HasGathered old now faults faults' b kept place batch → slice ≡ batch.lines.items → KeepsLines slice place kept kept' (Err why)
    → ReadsLog old now faults faults' (Err why)
gathered_refused old now faults faults' b kept kept' place batch slice why h is keeps =
    reads_refused batch.end old h.middle now faults faults' h.reader b kept place batch.lines.items slice h.before batch.taken why h.read h.gathers is keeps.refused (λ same. keeps.no_fault (ap Err same)) h.counted

-- the log ended behind it
gathered_ended : (old now : Option (List ℕ)) (faults faults' : ℕ) (b : Reading) (kept kept' : List Event) (place place' : Place) (batch : Batch) (slice : List Line) → HasGathered old now faults faults' b kept place batch → slice ≡ batch.lines.items → KeepsLines slice place kept kept' (Ok place')
    → batch.end ≡ Ended → AreKept kept' → ReadsLog old now faults faults' (Ok kept')
gathered_ended old now faults faults' b kept kept' place place' batch slice h is keeps ended are =
    reads_ended batch.end old h.middle now faults faults' h.reader b kept kept' kept' place place' batch.lines.items slice h.before batch.taken ended h.read h.gathers is keeps.all refl are h.counted

-- it ended otherwise
stopped_at : (end : BatchEnd) (old now : Option (List ℕ)) (faults faults' : ℕ) (b : Reading) (kept kept' : List Event) (place place' : Place) (batch : Batch) (slice : List Line) (why : LogStop) → batch.end ≡ end → HasGathered old now faults faults' b kept place batch → slice ≡ batch.lines.items
    → AreLinesKept slice place place' kept kept' → IsStopAt end why → ReadsLog old now faults faults' (Err why)
stopped_at GoesOn old now faults faults' b kept kept' place place' batch slice why end h is all at = absurd at
stopped_at Ended old now faults faults' b kept kept' place place' batch slice why end h is all at = absurd at
stopped_at Failed old now faults faults' b kept kept' place place' batch slice why end h is all at =
    subst (λ w. ReadsLog old now faults faults' (Err w)) (sym at)
    (reads_failed batch.end old h.middle now faults faults' h.reader b kept kept' place place' batch.lines.items slice h.before batch.taken end h.read h.gathers is all h.counted (h.fault end))
stopped_at LineTooLong old now faults faults' b kept kept' place place' batch slice why end h is all at =
    subst (λ w. ReadsLog old now faults faults' (Err w)) (sym at)
    (reads_long batch.end old h.middle now faults faults' h.reader b kept kept' place place' batch.lines.items slice h.before batch.taken end h.read h.gathers is all h.counted)
stopped_at InputTooLong old now faults faults' b kept kept' place place' batch slice why end h is all at =
    subst (λ w. ReadsLog old now faults faults' (Err w)) (sym at)
    (reads_past batch.end old h.middle now faults faults' h.reader b kept kept' place place' batch.lines.items slice h.before batch.taken end h.read h.gathers is all h.counted)

gathered_stopped : (old now : Option (List ℕ)) (faults faults' : ℕ) (b : Reading) (kept kept' : List Event) (place place' : Place) (batch : Batch) (slice : List Line) (why : LogStop) → HasGathered old now faults faults' b kept place batch → slice ≡ batch.lines.items → KeepsLines slice place kept kept' (Ok place')
    → IsStopAt batch.end why → ReadsLog old now faults faults' (Err why)
gathered_stopped old now faults faults' b kept kept' place place' batch slice why h is keeps at = stopped_at batch.end old now faults faults' b kept kept' place place' batch slice why refl h is keeps.all at

-- one of the last two batches is refused, or memory is wanted for the last one
pub rest_refused : (old now : Option (List ℕ)) (faults faults' : ℕ) (b : Reading) (kept kept' : List Event) (place : Place) (held : DecodedBatch) (batch : Batch) (slice : List Line) (why : LogStop) → HasDecoded old now faults faults' b kept place held batch → slice ≡ batch.lines.items
    → KeepsBoth held.lines.items slice place kept kept' (Err why) → ReadsLog old now faults faults' (Err why)
rest_refused old now faults faults' b kept kept' place held batch slice why h is (inl (err, keeps)) =
    refused_ahead old now now faults faults' faults' b kept kept' place held batch why h
    (some_within h.between now h.at 1376256 2752512 (omega arith) (some_gathered batch.end h.between now h.behind b (line_values batch.lines.items) h.at batch.taken h.gathers)) keeps h.counted
rest_refused old now faults faults' b kept kept' place held batch slice why h is (inr (place', between, all, keeps)) =
    gathered_refused old now faults faults' b between kept' place' batch slice why (behind_held old now faults faults' b kept between place place' held batch h all) is keeps

-- the log ended behind them
pub rest_ended : (old now : Option (List ℕ)) (faults faults' : ℕ) (b : Reading) (kept kept' : List Event) (place after : Place) (held : DecodedBatch) (batch : Batch) (slice : List Line) → HasDecoded old now faults faults' b kept place held batch → slice ≡ batch.lines.items
    → KeepsBoth held.lines.items slice place kept kept' (Ok after) → batch.end ≡ Ended → AreKept kept' → ReadsLog old now faults faults' (Ok kept')
rest_ended old now faults faults' b kept kept' place after held batch slice h is (inl (err, keeps)) ended are = absurd (let no : false ≡ true = err in cc)
rest_ended old now faults faults' b kept kept' place after held batch slice h is (inr (place', between, all, keeps)) ended are =
    gathered_ended old now faults faults' b between kept' place' after batch slice (behind_held old now faults faults' b kept between place place' held batch h all) is keeps ended are

-- it ended otherwise
pub rest_stopped : (old now : Option (List ℕ)) (faults faults' : ℕ) (b : Reading) (kept kept' : List Event) (place after : Place) (held : DecodedBatch) (batch : Batch) (slice : List Line) (why : LogStop) → HasDecoded old now faults faults' b kept place held batch → slice ≡ batch.lines.items
    → KeepsBoth held.lines.items slice place kept kept' (Ok after) → IsStopAt batch.end why → ReadsLog old now faults faults' (Err why)
rest_stopped old now faults faults' b kept kept' place after held batch slice why h is (inl (err, keeps)) at = absurd (let no : false ≡ true = err in cc)
rest_stopped old now faults faults' b kept kept' place after held batch slice why h is (inr (place', between, all, keeps)) at =
    gathered_stopped old now faults faults' b between kept' place' after batch slice why (behind_held old now faults faults' b kept between place place' held batch h all) is keeps at
