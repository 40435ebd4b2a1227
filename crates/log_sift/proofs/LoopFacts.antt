-- What becomes of a log's lines, line after line.
use Rattle.std.proofs.Common.{◌≡◌, ℕ, ◌+◌, ◌-◌, ◌<◌, ◌≤◌, List, [], ◌∷◌, ◌++◌, length, take, drop, slice_range, nat_lt, All, true, false, inl, inr, refl, sym, ap, subst, ◌∙◌, arith, append_assoc}
use Rattle.std.proofs.Math.Nat.{sub_self}
use Rattle.std.proofs.Math.Seq.{take-add}
use Rattle.std.proofs.lemmas.Bool.{cases_lt}
use Rattle.std.proofs.lemmas.Bool.Decides.{nat_tests}
use Rattle.std.proofs.lemmas.Grind.{flat_map-append}
use Rattle.std.proofs.lemmas.List.{append-nil, drop-drop, drop_all}
use Rattle.std.proofs.lemmas.List.Elements.{All-push}
use Rattle.line_reader.specs.Lines.{lines_of}
use Rattle.audit_event.specs.declared.event.Event.{Event}
use Rattle.log_sift.specs.declared.answer.Fate.{Fate}
use Rattle.log_sift.specs.declared.answer.Fate.TheVariants.{Blank, Stays, Left}
use Rattle.log_sift.specs.declared.answer.LeftLine.{LeftLine}
use Rattle.log_sift.specs.declared.answer.Stretch.{Stretch}
use Rattle.log_sift.specs.declared.answer.Sifting.{Sifting}
use Rattle.log_sift.specs.declared.recalling.EventIdentity.{EventIdentity}
use Rattle.log_sift.specs.Cutting.{BeginsWith, line_texts}
use Rattle.log_sift.specs.Recalling.{SiftsBehind, entries_of}
use Rattle.log_sift.specs.Sift.{SiftsLines}
use Rattle.log_sift.specs.Sifted.{IsSifting, LiesInLog, count_of, count_stays, kept_text, left_line, left_lines, noted, staying, stays_from, stays_of, stretches_text, with_stretch}

-- where the lines to come become these, what becomes of the whole log
pub record GoesOn (log : List ℕ) (sifting : Sifting) (number from start : ℕ) (fates : List Fate) (after : List Event) : Type 0 where
  pub all : List Fate
  pub sifts : SiftsLines [] (lines_of log) all after
  pub stays : kept_text log all ≡ (stretches_text log sifting.stays ++ slice_range log from start) ++ staying (line_texts (drop start log)) fates
  pub left : left_lines 0 all ≡ sifting.left ++ left_lines number fates
  pub kept : count_stays all ≡ sifting.kept + count_stays fates

-- the lines before an index were sifted, and from another on all of them stay
pub record HasSifted (log : List ℕ) (entries : List (EventIdentity × Event)) (sifting : Sifting) (number from start : ℕ) : Type 0 where
  pub first : from ≤ start
  pub last : start ≤ length log
  pub few : number ≤ start
  pub fewer : sifting.kept ≤ number
  pub within : All (LiesInLog log) sifting.stays
  pub events : List Event
  pub are : entries ≡ entries_of events
  pub goes_on : (fates : List Fate) (after : List Event) → SiftsLines events (lines_of (drop start log)) fates after → GoesOn log sifting number from start fates after

lt_true : (a b : ℕ) → a < b → nat_lt a b ≡ true
lt_true a b below = grind (arith, nat_tests)

lt_false : (a b : ℕ) → b ≤ a → nat_lt a b ≡ false
lt_false a b above = grind (arith, nat_tests)

nothing_between : (log : List ℕ) (at : ℕ) → slice_range log at at ≡ []
nothing_between log at = rw (sub_self at) refl

one_text : (log : List ℕ) (stays : List Stretch) (start end : ℕ) → stretches_text log (stays ++ record { start = start; end = end } ∷ []) ≡ stretches_text log stays ++ slice_range log start end
one_text log stays start end =
    flat_map-append (λ (stretch : Stretch). slice_range log stretch.start stretch.end) stays (record { start = start; end = end } ∷ [])
    ∙ ap (λ rest. stretches_text log stays ++ rest) (append-nil (slice_range log start end))

-- the bytes between two indexes as a stretch more
pub stretch_text : (log : List ℕ) (stays : List Stretch) (start end : ℕ) → start ≤ end → stretches_text log (with_stretch stays start end) ≡ stretches_text log stays ++ slice_range log start end
stretch_text log stays start end first = elim (cases_lt start end) [
  | inl below ↦ rw (lt_true start end below) (one_text log stays start end)
  | inr above ↦ (
      let same : end ≡ start = omega (arith, first, above) in
      rw (lt_false start end above) (sym (append-nil (stretches_text log stays)) ∙ ap (λ rest. stretches_text log stays ++ rest) (sym (nothing_between log start) ∙ ap (λ e. slice_range log start e) (sym same))))
]

pub stretch_within : (log : List ℕ) (stays : List Stretch) (start end : ℕ) → All (LiesInLog log) stays → start ≤ end → end ≤ length log → All (LiesInLog log) (with_stretch stays start end)
stretch_within log stays start end within first last = elim (cases_lt start end) [
  | inl below ↦ rw (lt_true start end below) (All-push (LiesInLog log) stays record { start = start; end = end } within record { first = first; last = last })
  | inr above ↦ rw (lt_false start end above) within
]

-- the bytes between three indexes
join : (log : List ℕ) (from start next : ℕ) → from ≤ start → start ≤ next → slice_range log from start ++ slice_range log start next ≡ slice_range log from next
join log from start next first second =
    let behind : drop (start - from) (drop from log) ≡ drop start log = drop-drop (start - from) from log ∙ ap (λ n. drop n log) (omega (arith, first)) in
    let count : next - from ≡ (start - from) + (next - start) = omega (arith, first, second) in
    sym (ap (λ n. take n (drop from log)) count ∙ take-add (start - from) (next - start) (drop from log) ∙ ap (λ bytes. slice_range log from start ++ take (next - start) bytes) behind)

longer : (log stays rest : List ℕ) (from start next : ℕ) → from ≤ start → start ≤ next → (stays ++ slice_range log from start) ++ (slice_range log start next ++ rest) ≡ (stays ++ slice_range log from next) ++ rest
longer log stays rest from start next first second =
    sym (append_assoc (stays ++ slice_range log from start) (slice_range log start next) rest)
    ∙ ap (λ bytes. bytes ++ rest) (append_assoc stays (slice_range log from start) (slice_range log start next) ∙ ap (λ bytes. stays ++ bytes) (join log from start next first second))

-- the text of what stays, with a line more
texts_join : (log rest : List ℕ) (sifting : Sifting) (from start next number : ℕ) (fate : Fate) → from ≤ start → start ≤ next
    → (stretches_text log sifting.stays ++ slice_range log from start) ++ (stays_of fate (slice_range log start next) ++ rest)
    ≡ (stretches_text log (noted sifting from start number fate).stays ++ slice_range log (stays_from from next fate) next) ++ rest
texts_join log rest sifting from start next number Blank first second = longer log (stretches_text log sifting.stays) rest from start next first second
texts_join log rest sifting from start next number Stays first second = longer log (stretches_text log sifting.stays) rest from start next first second
texts_join log rest sifting from start next number (Left cause) first second =
    ap (λ bytes. bytes ++ rest) (sym (stretch_text log sifting.stays from start first)
    ∙ sym (append-nil (stretches_text log (with_stretch sifting.stays from start)))
    ∙ ap (λ none. stretches_text log (with_stretch sifting.stays from start) ++ none) (sym (nothing_between log next)))

left_join : (sifting : Sifting) (from start number : ℕ) (fate : Fate) (rest : List LeftLine) → sifting.left ++ left_line fate number rest ≡ (noted sifting from start number fate).left ++ rest
left_join sifting from start number Blank rest = refl
left_join sifting from start number Stays rest = refl
left_join sifting from start number (Left cause) rest = sym (append_assoc sifting.left (record { line = number; cause = cause } ∷ []) rest)

kept_join : (sifting : Sifting) (from start number : ℕ) (fate : Fate) (rest : ℕ) → sifting.kept + (count_of fate + rest) ≡ (noted sifting from start number fate).kept + rest
kept_join sifting from start number Blank rest = omega arith
kept_join sifting from start number Stays rest = omega arith
kept_join sifting from start number (Left cause) rest = omega arith

kept_few : (sifting : Sifting) (from start number : ℕ) (fate : Fate) → sifting.kept ≤ number → (noted sifting from start (number + 1) fate).kept ≤ number + 1
kept_few sifting from start number Blank few = omega (arith, few)
kept_few sifting from start number Stays few = omega (arith, few)
kept_few sifting from start number (Left cause) few = omega (arith, few)

from_first : (from start next : ℕ) (fate : Fate) → from ≤ start → start ≤ next → stays_from from next fate ≤ next
from_first from start next Blank first second = omega (arith, first, second)
from_first from start next Stays first second = omega (arith, first, second)
from_first from start next (Left cause) first second = omega arith

noted_within : (log : List ℕ) (sifting : Sifting) (from start number : ℕ) (fate : Fate) → All (LiesInLog log) sifting.stays → from ≤ start → start ≤ length log → All (LiesInLog log) (noted sifting from start number fate).stays
noted_within log sifting from start number Blank within first last = within
noted_within log sifting from start number Stays within first last = within
noted_within log sifting from start number (Left cause) within first last = stretch_within log sifting.stays from start within first last

-- where the lines to come go on so behind a line, they go on so before it
goes_on_before : (log line : List ℕ) (sifting : Sifting) (number from start next : ℕ) (fate : Fate) (fates : List Fate) (after : List Event) → from ≤ start → start ≤ next
    → BeginsWith (drop start log) line (slice_range log start next) (drop next log) → GoesOn log sifting number from start (fate ∷ fates) after
    → GoesOn log (noted sifting from start (number + 1) fate) (number + 1) (stays_from from next fate) next fates after
goes_on_before log line sifting number from start next fate fates after first second begins on = record {
  all = on.all;
  sifts = on.sifts;
  stays = on.stays
      ∙ ap (λ texts. (stretches_text log sifting.stays ++ slice_range log from start) ++ staying texts (fate ∷ fates)) begins.texts
      ∙ texts_join log (staying (line_texts (drop next log)) fates) sifting from start next (number + 1) fate first second;
  left = on.left ∙ left_join sifting from start (number + 1) fate (left_lines (number + 1) fates);
  kept = on.kept ∙ kept_join sifting from start (number + 1) fate (count_stays fates);
}

-- a line more is sifted
pub has_sifted : (log line : List ℕ) (entries after : List (EventIdentity × Event)) (sifting : Sifting) (number from start next : ℕ) (fate : Fate) → HasSifted log entries sifting number from start
    → start < next → next ≤ length log → BeginsWith (drop start log) line (slice_range log start next) (drop next log) → SiftsBehind entries after line fate
    → HasSifted log after (noted sifting from start (number + 1) fate) (number + 1) (stays_from from next fate) next
has_sifted log line entries after sifting number from start next fate has further last begins sifts =
    let f = has.first in
    let l = has.last in
    let n = has.few in
    let second : start ≤ next = omega (arith, further) in
    let here = sifts has.events has.are in record {
      first = from_first from start next fate f second;
      last = last;
      few = omega (arith, n, further);
      fewer = kept_few sifting from start number fate has.fewer;
      within = noted_within log sifting from start (number + 1) fate has.within f l;
      events = here.0;
      are = here.1;
      goes_on = λ fates kept rest. goes_on_before log line sifting number from start next fate fates kept f second begins
          (has.goes_on (fate ∷ fates) kept (subst (λ lines. SiftsLines has.events lines (fate ∷ fates) kept) (sym begins.lines) (here.0, here.2, rest)));
    }

-- all lines are sifted
pub all_sifted : (log : List ℕ) (entries : List (EventIdentity × Event)) (sifting told : Sifting) (number from start : ℕ) → HasSifted log entries sifting number from start → length log ≤ start
    → told ≡ record sifting { stays = with_stretch sifting.stays from start } → (fates : List Fate) × IsSifting log fates told
all_sifted log entries sifting told number from start has past is =
    let over : drop start log ≡ [] = drop_all start log past in
    let on = has.goes_on [] has.events (subst (λ bytes. SiftsLines has.events (lines_of bytes) [] has.events) (sym over) refl) in (
      on.all,
      subst (IsSifting log on.all) (sym is) record {
        sifted = record { kept = has.events; sifts = on.sifts };
        within = stretch_within log sifting.stays from start has.within has.first has.last;
        stays = stretch_text log sifting.stays from start has.first ∙ sym (append-nil (stretches_text log sifting.stays ++ slice_range log from start)) ∙ sym on.stays;
        left = sym (append-nil sifting.left) ∙ sym on.left;
        kept = (let k = on.kept in omega (arith, k));
      },
    )
