-- How far the lines of a batch were kept.
use Rattle.std.proofs.Common.{◌≡◌, ℕ, ◌+◌, ◌-◌, ◌<◌, ◌≤◌, List, [], ◌∷◌, ◌++◌, length, get_or, Ok, Err, refl, sym, ◌∙◌, ap, subst, arith, length-append, append_assoc}
use Rattle.std.specs.List.{AllZip}
use Rattle.std.proofs.lemmas.List.{append-nil, map-append, get_or_at}
use Rattle.line_reader.specs.declared.line.Line.{Line}
use Rattle.line_reader.specs.Lines.{NumberedLine, longest_line}
use Rattle.line_reader.specs.Reading.{line_value}
use Rattle.line_reader.proofs.LineFacts.{All-head, All-tail}
use Rattle.audit_event.specs.declared.event.Event.{Event}
use Rattle.batch_decode.specs.declared.decoded.Decoded.{Decoded}
use Rattle.batch_decode.specs.Batches.{IsDecodedLine}
use Rattle.log_intake.specs.declared.keeping.Place.{Place}
use Rattle.log_intake.specs.declared.stop.LogStop.{LogStop}
use Rattle.log_intake.specs.declared.stop.LogStop.TheVariants.{ReadFault}
use Rattle.log_intake.specs.Batches.{AreShort, line_values}
use Rattle.log_intake.specs.Kept.{AreBefore}
use Rattle.log_intake.specs.Log.{TakesLine, TakesLines, log_state}
use Rattle.log_intake.specs.Numbering.{AreOrdered, last_number, most_extra, most_items}
use Rattle.log_intake.specs.Keeping.{KeepsLines, AreLinesKept}
use Rattle.log_intake.specs.Taking.{IsRefusal}
use Rattle.log_intake.proofs.NumberFacts.{last_number-append, most_extra-append, ordered_less}
use Rattle.log_intake.proofs.StepFacts.{in_order_push, in_order_stopped}

-- the lines before these were kept
pub record HasKept (lines : List Line) (rest : List Decoded) (place place' : Place) (kept kept' : List Event) (at : ℕ) : Type 0 where
  pub front : List Line
  pub back : List Line
  pub all : lines ≡ front ++ back
  pub count : length front ≡ at
  pub decoded : AllZip IsDecodedLine back rest
  pub short : AreShort (line_values back)
  pub ordered : AreOrdered place'.line place'.extra (line_values back)
  pub takes : TakesLines (log_state place.extra kept) (line_values front) (Ok (log_state place'.extra kept'))
  pub line : place'.line ≡ last_number place.line (line_values front)
  pub extra : place'.extra ≤ most_extra place.extra (line_values front)
  pub before : AreBefore (place'.line + place'.extra + 1) kept'

pub none_kept : (lines : List Line) (rest decoded : List Decoded) (place : Place) (kept : List Event) → rest ≡ decoded → AllZip IsDecodedLine lines decoded → AreShort (line_values lines)
    → AreOrdered place.line place.extra (line_values lines) → AreBefore (place.line + place.extra + 1) kept → HasKept lines rest place place kept kept 0
none_kept lines rest decoded place kept is zip short ordered before = record {
  front = [];
  back = lines;
  all = refl;
  count = refl;
  decoded = subst (AllZip IsDecodedLine lines) (sym is) zip;
  short = short;
  ordered = ordered;
  takes = refl;
  line = refl;
  extra = omega arith;
  before = before;
}

-- the line that stands next
pub record StandsNext (lines : List Line) (front back : List Line) (decoded : Decoded) (more : List Decoded) (at : ℕ) (place : Place) : Type 0 where
  pub line : Line
  pub others : List Line
  pub back_is : back ≡ line ∷ others
  pub index : (d : Line) → get_or lines at d ≡ line
  pub within : at < length lines
  pub decodes : IsDecodedLine line decoded
  pub rest : AllZip IsDecodedLine others more
  pub short : length line.bytes ≤ longest_line
  pub shorts : AreShort (line_values others)
  pub later : place.line < line.number
  pub room : line.number + (place.extra + (most_items line.bytes - 1)) ≤ 1099511627776
  pub ordered : AreOrdered line.number (place.extra + (most_items line.bytes - 1)) (line_values others)

stands : (lines front back : List Line) (decoded : Decoded) (more : List Decoded) (at : ℕ) (place : Place) → lines ≡ front ++ back → length front ≡ at → AllZip IsDecodedLine back (decoded ∷ more) → AreShort (line_values back)
    → AreOrdered place.line place.extra (line_values back) → StandsNext lines front back decoded more at place
stands lines front [] decoded more at place all count zip short ordered = absurd zip
stands lines front (line ∷ others) decoded more at place all count zip short ordered = record {
  line = line;
  others = others;
  back_is = refl;
  index = λ d. ap (λ l. get_or l at d) all ∙ get_or_at front line others d at count;
  within = (let long = ap length all in let sum = length-append front (line ∷ others) in omega (arith, long, sum, count));
  decodes = zip.0;
  rest = zip.1;
  short = All-head (λ (l : NumberedLine). length l.bytes ≤ longest_line) (line_value line) (line_values others) short;
  shorts = All-tail (λ (l : NumberedLine). length l.bytes ≤ longest_line) (line_value line) (line_values others) short;
  later = ordered.0;
  room = ordered.1;
  ordered = ordered.2;
}

pub stands_next : (lines : List Line) (rest more : List Decoded) (decoded : Decoded) (place place' : Place) (kept kept' : List Event) (at : ℕ) → (h : HasKept lines rest place place' kept kept' at) → rest ≡ decoded ∷ more → StandsNext lines h.front h.back decoded more at place'
stands_next lines rest more decoded place place' kept kept' at h is =
    stands lines h.front h.back decoded more at place' h.all h.count (subst (AllZip IsDecodedLine h.back) is h.decoded) h.short h.ordered

values_push : (front : List Line) (line : Line) → line_values (front ++ line ∷ []) ≡ line_values front ++ line_value line ∷ []
values_push front line = map-append line_value front (line ∷ [])

-- the next line is kept
pub line_kept : (lines : List Line) (rest more : List Decoded) (decoded : Decoded) (place place' place'' : Place) (kept kept' kept'' : List Event) (at : ℕ) (line : Line) → (h : HasKept lines rest place place' kept kept' at) → (s : StandsNext lines h.front h.back decoded more at place') → line ≡ s.line
    → TakesLine (log_state place'.extra kept') (line_value line) (Ok (log_state place''.extra kept'')) → place''.line ≡ line.number → place''.extra ≤ place'.extra + (most_items line.bytes - 1) → AreBefore (place''.line + place''.extra + 1) kept''
    → HasKept lines more place place'' kept kept'' (at + 1)
line_kept lines rest more decoded place place' place'' kept kept' kept'' at line h s is step number extra before =
    let grown = h.extra in
    let bound : place''.extra ≤ place'.extra + (most_items s.line.bytes - 1) = subst (λ (l : Line). place''.extra ≤ place'.extra + (most_items l.bytes - 1)) is extra in
    let numbered : place''.line ≡ s.line.number = subst (λ (l : Line). place''.line ≡ l.number) is number in
    let push = values_push h.front s.line in
    record {
      front = h.front ++ s.line ∷ [];
      back = s.others;
      all = h.all ∙ ap (λ b. h.front ++ b) s.back_is ∙ sym (append_assoc h.front (s.line ∷ []) s.others);
      count = (let long = length-append h.front (s.line ∷ []) in let c = h.count in omega (arith, long, c));
      decoded = s.rest;
      short = s.shorts;
      ordered = subst (λ n. AreOrdered n place''.extra (line_values s.others)) (sym numbered) (ordered_less s.line.number (place'.extra + (most_items s.line.bytes - 1)) place''.extra (line_values s.others) bound s.ordered);
      takes = subst (λ l. TakesLines (log_state place.extra kept) l (Ok (log_state place''.extra kept''))) (sym push)
          (in_order_push TakesLine (log_state place.extra kept) (log_state place'.extra kept') (log_state place''.extra kept'') (line_values h.front) (line_value s.line) h.takes
          (subst (λ (l : Line). TakesLine (log_state place'.extra kept') (line_value l) (Ok (log_state place''.extra kept''))) is step));
      line = numbered ∙ sym (last_number-append place.line (line_values h.front) (line_value s.line ∷ [])) ∙ ap (last_number place.line) (sym push);
      extra = (let all = most_extra-append place.extra (line_values h.front) (line_value s.line ∷ []) in
          let whole : most_extra place.extra (line_values (h.front ++ s.line ∷ [])) ≡ most_extra place.extra (line_values h.front) + (most_items s.line.bytes - 1) = ap (most_extra place.extra) push ∙ all in
          omega (arith, whole, bound, grown));
      before = before;
    }

-- the next line is refused, whatever comes behind it
pub line_refused : (lines : List Line) (rest more : List Decoded) (decoded : Decoded) (place place' : Place) (kept kept' : List Event) (at : ℕ) (line : Line) (stop : LogStop) → (h : HasKept lines rest place place' kept kept' at) → (s : StandsNext lines h.front h.back decoded more at place') → line ≡ s.line
    → TakesLine (log_state place'.extra kept') (line_value line) (Err stop) → TakesLines (log_state place.extra kept) (line_values lines) (Err stop)
line_refused lines rest more decoded place place' kept kept' at line stop h s is step =
    let cut : line_values lines ≡ line_values h.front ++ line_value s.line ∷ line_values s.others =
    ap line_values (h.all ∙ ap (λ b. h.front ++ b) s.back_is) ∙ map-append line_value h.front (s.line ∷ s.others) in
    subst (λ l. TakesLines (log_state place.extra kept) l (Err stop)) (sym cut)
    (in_order_stopped TakesLine (log_state place.extra kept) (log_state place'.extra kept') (line_values h.front) (line_values s.others) (line_value s.line) stop h.takes
    (subst (λ (l : Line). TakesLine (log_state place'.extra kept') (line_value l) (Err stop)) is step))

nothing_back : (back : List Line) (rest : List Decoded) → length rest ≡ 0 → AllZip IsDecodedLine back rest → back ≡ []
nothing_back [] rest none zip = refl
nothing_back (line ∷ back) [] none zip = absurd zip
nothing_back (line ∷ back) (decoded ∷ rest) none zip = absurd (omega (arith, none))

pub lines_kept : (lines : List Line) (rest : List Decoded) (place place' : Place) (kept kept' : List Event) (at : ℕ) → HasKept lines rest place place' kept kept' at → length rest ≡ 0 → AreLinesKept lines place place' kept kept'
lines_kept lines rest place place' kept kept' at h none =
    let whole : h.front ≡ lines = sym (h.all ∙ ap (λ b. h.front ++ b) (nothing_back h.back rest none h.decoded) ∙ append-nil h.front) in
    record {
      takes = subst (λ l. TakesLines (log_state place.extra kept) (line_values l) (Ok (log_state place'.extra kept'))) whole h.takes;
      line = subst (λ l. place'.line ≡ last_number place.line (line_values l)) whole h.line;
      extra = subst (λ l. place'.extra ≤ most_extra place.extra (line_values l)) whole h.extra;
      before = h.before;
    }

pub keeps_all : (lines : List Line) (place place' : Place) (kept kept' : List Event) → AreLinesKept lines place place' kept kept' → KeepsLines lines place kept kept' (Ok place')
keeps_all lines place place' kept kept' all = record {
  all = all;
  refused = tt;
  no_fault = λ is. absurd (let no : Ok place' ≡ Err ReadFault = is in cc);
}

pub keeps_refused : (lines : List Line) (place : Place) (kept kept' : List Event) (stop : LogStop) → (IsRefusal stop → TakesLines (log_state place.extra kept) (line_values lines) (Err stop)) → (stop ≡ ReadFault → ⊥)
    → KeepsLines lines place kept kept' (Err stop)
keeps_refused lines place kept kept' stop refused fault = record {
  all = tt;
  refused = refused;
  no_fault = λ is. fault (let same : stop ≡ ReadFault = (let e : Err stop ≡ Err ReadFault = is in cc) in same);
}
