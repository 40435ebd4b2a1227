-- From a place in the marks to what the spans say of a moment.
use Rattle.std.proofs.Common.{◌≡◌, ℕ, zero, suc, ◌+◌, ◌-◌, ◌^◌, ◌<◌, ◌≤◌, ℤ, ◌<ℤ◌, ◌≤ℤ◌, ⊎_elim, inl, inr, Bool, true, false, List, length, get_or, map, take, drop, All, refl, sym, ◌∙◌, subst, ap, arith}
use Rattle.std.specs.List.Sorted.{IsPartitionPoint, IsPartitionedBy}
use Rattle.std.specs.Ordering.{int_cmp, is_le, is_lt}
use Rattle.std.proofs.lemmas.Bool.{cases_lt}
use Rattle.std.proofs.lemmas.Int.{ints}
use Rattle.std.proofs.lemmas.List.{get_or_default, get_or-drop, get_or-take, length-drop, length-take}
use Rattle.std.proofs.lemmas.List.Sorted.{IsPermutation-sym}
use Rattle.base_types.proofs.Integers.{ge_from_test, gt_from_test, le_from_test, lt_from_test, test_from_le, test_from_lt}
use Rattle.base_types.proofs.Quantifiers.{Any-map, Any-permutation, Any-unmap}
use Rattle.base_types.specs.declared.kubernetes.revision.Moment.{Moment}
use Rattle.time_windows.specs.declared.mark.SpanMark.{SpanMark}
use Rattle.time_windows.specs.declared.span.Span.{Span}
use Rattle.time_windows.specs.Marks.{IsByHi, IsByLo, IsGreatestOf, IsInOrder, IsLeastOf, end_of, start_of}
use Rattle.time_windows.specs.Places.{BeginsAfter, EndedBefore, IsHighest, IsLowest}

-- the moments of marks in order never fall
rises : (marks order : List SpanMark) → IsInOrder marks order → (i n : ℕ) (d : SpanMark) → i + n < length order → (get_or order i d).at.0 ≤ℤ (get_or order (i + n) d).at.0
rises marks order sorted i zero d within =
    let same : i + 0 ≡ i = omega arith in subst (λ j. (get_or order i d).at.0 ≤ℤ (get_or order j d).at.0) (sym same) (omega (arith, ints))
rises marks order sorted i (suc n) d within =
    let upto = rises marks order sorted i n d (omega arith) in
    let last : (get_or order (i + n) d).at.0 ≤ℤ (get_or order (i + n + 1) d).at.0 =
    ⊎_elim (λ before. omega (arith, ints)) (λ tie. let moment = tie.0 in omega (arith, ints)) (sorted.each (i + n) d (omega arith)) in
    let same : i + n + 1 ≡ i + suc n = omega arith in
    subst (λ j. (get_or order i d).at.0 ≤ℤ (get_or order j d).at.0) same (omega (arith, ints))

-- marks that keep the moments of marks in order
record KeepsMoments (marks order kept : List SpanMark) : Type 0 where
  sorted : IsInOrder marks order
  long : length kept ≡ length order
  moments : (k : ℕ) (d : SpanMark) → k < length order → (get_or kept k d).at ≡ (get_or order k d).at

never_falls : (marks order kept : List SpanMark) → KeepsMoments marks order kept → (i j : ℕ) (d : SpanMark) → i ≤ j → j < length kept → (get_or kept i d).at.0 ≤ℤ (get_or kept j d).at.0
never_falls marks order kept keeps i j d upto within =
    let long = keeps.long in
    let there : i + (j - i) ≡ j = omega arith in
    let up : (get_or order i d).at.0 ≤ℤ (get_or order j d).at.0 = subst (λ n. (get_or order i d).at.0 ≤ℤ (get_or order n d).at.0) there (rises marks order keeps.sorted i (j - i) d (omega arith)) in
    let first : (get_or kept i d).at.0 ≡ (get_or order i d).at.0 = ap (λ (m : Moment). m.0) (keeps.moments i d (omega arith)) in
    let last : (get_or kept j d).at.0 ≡ (get_or order j d).at.0 = ap (λ (m : Moment). m.0) (keeps.moments j d (omega arith)) in
    omega (arith, ints)

-- whether a mark stands before a moment, or not after it
abbrev pub stands_before : ℤ → SpanMark → Bool
stands_before at mark = is_lt (int_cmp mark.at.0 at)

abbrev pub stands_by : ℤ → SpanMark → Bool
stands_by at mark = is_le (int_cmp mark.at.0 at)

keeps_ends : (spans : List Span) (marks : List SpanMark) (by_hi : IsByHi spans marks) → KeepsMoments (map end_of spans) by_hi.order marks
keeps_ends spans marks by_hi = record { sorted = by_hi.sorted; long = by_hi.greatest.long; moments = by_hi.greatest.moments }

keeps_starts : (spans : List Span) (marks : List SpanMark) (by_lo : IsByLo spans marks) → KeepsMoments (map start_of spans) by_lo.order marks
keeps_starts spans marks by_lo = record { sorted = by_lo.sorted; long = by_lo.least.long; moments = by_lo.least.moments }

pub ends_parted : (spans : List Span) (marks : List SpanMark) (at : ℤ) → IsByHi spans marks → IsPartitionedBy (stands_before at) marks
ends_parted spans marks at by_hi = λ i j d upto within passes.
    let up = never_falls _ _ marks (keeps_ends spans marks by_hi) i j d upto within in
    let below = lt_from_test (get_or marks j d).at.0 at passes in
    test_from_lt (get_or marks i d).at.0 at (omega (arith, ints))

pub starts_parted : (spans : List Span) (marks : List SpanMark) (at : ℤ) → IsByLo spans marks → IsPartitionedBy (stands_by at) marks
starts_parted spans marks at by_lo = λ i j d upto within passes.
    let up = never_falls _ _ marks (keeps_starts spans marks by_lo) i j d upto within in
    let below = le_from_test (get_or marks j d).at.0 at passes in
    test_from_le (get_or marks i d).at.0 at (omega (arith, ints))

-- the marks before the place pass the test, and the others fail it
abbrev pub Parts : (SpanMark → Bool) → List SpanMark → ℕ → Type 0
Parts test marks place = IsPartitionPoint (λ mark. test mark ≡ true) (λ mark. test mark ≡ false) marks place

-- the ended spans are those whose ends stand in front
ended_in_front : (spans : List Span) (marks : List SpanMark) (at : ℤ) (place revision : ℕ) (by_hi : IsByHi spans marks) → Parts (stands_before at) marks place → EndedBefore spans at revision
    → (k : ℕ) × (k < place) × (k < length by_hi.order) × ((d : SpanMark) → (get_or by_hi.order k d).revision ≡ revision)
ended_in_front spans marks at place revision by_hi parts ended =
    let any = Any-permutation (λ mark. (mark.revision ≡ revision) × (mark.at.0 <ℤ at)) (map end_of spans) by_hi.order by_hi.sorted.same (Any-map end_of (λ mark. (mark.revision ≡ revision) × (mark.at.0 <ℤ at)) spans ended) in
    let long = by_hi.greatest.long in
    let front = ⊎_elim
    (λ (before : any.0 < place). before)
    (λ (behind : place ≤ any.0).
    let fails = ge_from_test (get_or marks any.0 any.1).at.0 at (parts.1 any.0 any.1 behind (let within = any.2 in omega arith)) in
    let moment : (get_or marks any.0 any.1).at.0 ≡ any.1.at.0 = ap (λ (m : Moment). m.0) (by_hi.greatest.moments any.0 any.1 any.2) ∙ ap (λ (mark : SpanMark). mark.at.0) any.3 in
    let passes = any.4.1 in
    absurd (omega (arith, ints)))
    (cases_lt any.0 place) in
    (any.0, front, any.2, λ d. ap (λ (mark : SpanMark). mark.revision) (get_or_default by_hi.order any.0 d any.1 any.2 ∙ any.3) ∙ any.4.0)

-- a revision that had ended lies behind the start
start_below : (start : ℕ) (spans : List Span) (at : ℤ) (revision : ℕ) → All (λ span. start < span.revision) spans → EndedBefore spans at revision → start ≤ revision
start_below start spans at revision behind ended =
    let above : start < ended.1.revision = subst (λ (span : Span). start < span.revision) ended.3 (behind ended.0 ended.1 ended.2) in
    let same = ended.4.0 in
    omega arith

-- the start, where no mark stands in front
pub IsLowest-start : (start : ℕ) (spans : List Span) (marks : List SpanMark) (at : ℤ) (place : ℕ) → IsByHi spans marks → Parts (stands_before at) marks place → place ≡ 0 → IsLowest start spans at start
IsLowest-start start spans marks at place by_hi parts first = record {
  reached = inl refl;
  from_start = omega arith;
  greatest = λ revision ended. let front = ended_in_front spans marks at place revision by_hi parts ended in let before = front.1 in absurd (omega arith);
}

-- the greatest revision of the marks in front
IsLowest-of : (start : ℕ) (spans : List Span) (marks : List SpanMark) (at : ℤ) (place revision : ℕ) → All (λ span. start < span.revision) spans → (by_hi : IsByHi spans marks)
    → Parts (stands_before at) marks place → place ≤ length marks → IsGreatestOf (take place by_hi.order) revision → IsLowest start spans at revision
IsLowest-of start spans marks at place revision behind by_hi parts upto greatest =
    let long = by_hi.greatest.long in
    let any = greatest.among in
    let front : any.0 < place = (let within = any.2 in omega (arith, length-take place by_hi.order)) in
    let within : any.0 < length by_hi.order = (let within = any.2 in omega (arith, length-take place by_hi.order)) in
    let there : get_or by_hi.order any.0 any.1 ≡ any.1 = sym (get_or-take place by_hi.order any.0 any.1 front) ∙ any.3 in
    let moment : (get_or marks any.0 any.1).at.0 ≡ any.1.at.0 = ap (λ (m : Moment). m.0) (by_hi.greatest.moments any.0 any.1 within) ∙ ap (λ (mark : SpanMark). mark.at.0) there in
    let passes = lt_from_test (get_or marks any.0 any.1).at.0 at (parts.0 any.0 any.1 (omega arith) front) in
    let ended : EndedBefore spans at revision =
    Any-unmap end_of (λ mark. (mark.revision ≡ revision) × (mark.at.0 <ℤ at)) spans
    (Any-permutation (λ mark. (mark.revision ≡ revision) × (mark.at.0 <ℤ at)) by_hi.order (map end_of spans) (IsPermutation-sym _ _ by_hi.sorted.same) (any.0, any.1, within, there, (any.4, omega (arith, ints)))) in
    record {
      reached = inr ended;
      from_start = start_below start spans at revision behind ended;
      greatest = λ other other_ended.
          let found = ended_in_front spans marks at place other by_hi parts other_ended in
          let before = found.1 in
          let known = found.2 in
          let d = any.1 in
          let among : found.0 < length (take place by_hi.order) = omega (arith, length-take place by_hi.order) in
          let bound : (get_or by_hi.order found.0 d).revision ≤ revision = subst (λ (mark : SpanMark). mark.revision ≤ revision) (get_or-take place by_hi.order found.0 d before) (greatest.bound found.0 d among) in
          let is = found.3 d in
          omega arith;
    }

-- and else the revision of the last mark that does
pub IsLowest-mark : (start : ℕ) (spans : List Span) (marks : List SpanMark) (at : ℤ) (place : ℕ) (d : SpanMark) → All (λ span. start < span.revision) spans → IsByHi spans marks
    → Parts (stands_before at) marks place → 0 < place → place ≤ length marks → IsLowest start spans at (get_or marks (place - 1) d).revision
IsLowest-mark start spans marks at place d behind by_hi parts after_first upto =
    let long = by_hi.greatest.long in
    let next : place - 1 + 1 ≡ place = omega arith in
    IsLowest-of start spans marks at place _ behind by_hi parts upto
    (subst (λ n. IsGreatestOf (take n by_hi.order) (get_or marks (place - 1) d).revision) next (by_hi.greatest.revisions (place - 1) d (omega arith)))

-- the spans that begin later are those whose starts stand behind
begun_behind : (spans : List Span) (marks : List SpanMark) (at : ℤ) (place revision : ℕ) (by_lo : IsByLo spans marks) → Parts (stands_by at) marks place → BeginsAfter spans at revision
    → (k : ℕ) × (place ≤ k) × (k < length by_lo.order) × ((d : SpanMark) → (get_or by_lo.order k d).revision ≡ revision)
begun_behind spans marks at place revision by_lo parts begins =
    let any = Any-permutation (λ mark. (mark.revision ≡ revision) × (at <ℤ mark.at.0)) (map start_of spans) by_lo.order by_lo.sorted.same (Any-map start_of (λ mark. (mark.revision ≡ revision) × (at <ℤ mark.at.0)) spans begins) in
    let long = by_lo.least.long in
    let behind = ⊎_elim
    (λ (before : any.0 < place).
    let passes = le_from_test (get_or marks any.0 any.1).at.0 at (parts.0 any.0 any.1 (omega arith) before) in
    let moment : (get_or marks any.0 any.1).at.0 ≡ any.1.at.0 = ap (λ (m : Moment). m.0) (by_lo.least.moments any.0 any.1 any.2) ∙ ap (λ (mark : SpanMark). mark.at.0) any.3 in
    let fails = any.4.1 in
    absurd (omega (arith, ints)))
    (λ (behind : place ≤ any.0). behind)
    (cases_lt any.0 place) in
    (any.0, behind, any.2, λ d. ap (λ (mark : SpanMark). mark.revision) (get_or_default by_lo.order any.0 d any.1 any.2 ∙ any.3) ∙ any.4.0)

-- the last place of all, where no mark stands behind
pub IsHighest-end : (spans : List Span) (marks : List SpanMark) (at : ℤ) (place highest : ℕ) → IsByLo spans marks → Parts (stands_by at) marks place → length marks ≤ place → highest ≡ 2 ^ 64 - 1 → IsHighest spans at highest
IsHighest-end spans marks at place highest by_lo parts ended last = record {
  reached = inl last;
  least = λ revision begins.
      let behind = begun_behind spans marks at place revision by_lo parts begins in
      let long = by_lo.least.long in
      let after = behind.1 in
      let within = behind.2 in
      absurd (omega arith);
}

-- a revision that begins later lies behind the first
first_below : (first : ℕ) (spans : List Span) (at : ℤ) (revision : ℕ) → All (λ span. first < span.revision) spans → BeginsAfter spans at revision → first < revision
first_below first spans at revision behind begins =
    let above : first < begins.1.revision = subst (λ (span : Span). first < span.revision) begins.3 (behind begins.0 begins.1 begins.2) in
    let same = begins.4.0 in
    omega arith

-- and else the place before the revision of the first mark that does
pub record IsBegun (first : ℕ) (spans : List Span) (at : ℤ) (revision : ℕ) : Type 0 where
  pub above : first < revision
  pub begins : BeginsAfter spans at revision
  pub least : (other : ℕ) → BeginsAfter spans at other → revision ≤ other

IsBegun-of : (first : ℕ) (spans : List Span) (marks : List SpanMark) (at : ℤ) (place revision : ℕ) → All (λ span. first < span.revision) spans → (by_lo : IsByLo spans marks)
    → Parts (stands_by at) marks place → place < length marks → IsLeastOf (drop place by_lo.order) revision → IsBegun first spans at revision
IsBegun-of first spans marks at place revision behind by_lo parts within_marks least =
    let long = by_lo.least.long in
    let any = least.among in
    let within : place + any.0 < length by_lo.order = (let within = any.2 in omega (arith, length-drop place by_lo.order)) in
    let there : get_or by_lo.order (place + any.0) any.1 ≡ any.1 = sym (get_or-drop place by_lo.order any.0 any.1) ∙ any.3 in
    let moment : (get_or marks (place + any.0) any.1).at.0 ≡ any.1.at.0 = ap (λ (m : Moment). m.0) (by_lo.least.moments (place + any.0) any.1 within) ∙ ap (λ (mark : SpanMark). mark.at.0) there in
    let fails = gt_from_test (get_or marks (place + any.0) any.1).at.0 at (parts.1 (place + any.0) any.1 (omega arith) (omega arith)) in
    let begins : BeginsAfter spans at revision =
    Any-unmap start_of (λ mark. (mark.revision ≡ revision) × (at <ℤ mark.at.0)) spans
    (Any-permutation (λ mark. (mark.revision ≡ revision) × (at <ℤ mark.at.0)) by_lo.order (map start_of spans) (IsPermutation-sym _ _ by_lo.sorted.same) (place + any.0, any.1, within, there, (any.4, omega (arith, ints)))) in
    record {
      above = first_below first spans at revision behind begins;
      begins = begins;
      least = λ other other_begins.
          let found = begun_behind spans marks at place other by_lo parts other_begins in
          let after = found.1 in
          let known = found.2 in
          let d = any.1 in
          let among : found.0 - place < length (drop place by_lo.order) = omega (arith, length-drop place by_lo.order) in
          let there : place + (found.0 - place) ≡ found.0 = omega arith in
          let bound : revision ≤ (get_or by_lo.order found.0 d).revision =
          subst (λ n. revision ≤ (get_or by_lo.order n d).revision) there (subst (λ (mark : SpanMark). revision ≤ mark.revision) (get_or-drop place by_lo.order (found.0 - place) d) (least.bound (found.0 - place) d among)) in
          let is = found.3 d in
          omega arith;
    }

pub IsBegun-mark : (first : ℕ) (spans : List Span) (marks : List SpanMark) (at : ℤ) (place : ℕ) (d : SpanMark) → All (λ span. first < span.revision) spans → IsByLo spans marks
    → Parts (stands_by at) marks place → place < length marks → IsBegun first spans at (get_or marks place d).revision
IsBegun-mark first spans marks at place d behind by_lo parts within =
    let long = by_lo.least.long in
    IsBegun-of first spans marks at place _ behind by_lo parts within (by_lo.least.revisions place d (omega arith))

pub IsHighest-before : (first : ℕ) (spans : List Span) (at : ℤ) (revision : ℕ) → IsBegun first spans at revision → IsHighest spans at (revision - 1)
IsHighest-before first spans at revision begun =
    let above = begun.above in
    let same : revision - 1 + 1 ≡ revision = omega arith in
    record {
      reached = inr (subst (BeginsAfter spans at) (sym same) begun.begins);
      least = λ other begins. let upto = begun.least other begins in omega arith;
    }

-- the same, of the mark that was read there
pub IsBegun-read : (first : ℕ) (spans : List Span) (marks : List SpanMark) (at : ℤ) (place : ℕ) (mark : SpanMark) → All (λ span. first < span.revision) spans → IsByLo spans marks
    → Parts (stands_by at) marks place → place < length marks → mark ≡ get_or marks place mark → IsBegun first spans at mark.revision
IsBegun-read first spans marks at place mark behind by_lo parts within is =
    subst (λ (m : SpanMark). IsBegun first spans at m.revision) (sym is) (IsBegun-mark first spans marks at place mark behind by_lo parts within)
