-- The places that windows answer are those of the model of history.
use Rattle.std.proofs.Common.{◌≡◌, ℕ, ℤ, suc, zero, ◌+◌, ◌-◌, ◌<◌, ◌≤◌, ◌<ℤ◌, ◌≤ℤ◌, ◌⊎◌, inl, inr, true, false, List, [], ◌∷◌, length, get_or, map, refl, ap, ◌∙◌, arith}
use Rattle.std.specs.Prelude.{int_lt}
use Rattle.std.proofs.lemmas.Int.{ints}
use Rattle.base_types.proofs.Quantifiers.{Any-head, Any-tail}
use Rattle.history_model.proofs.WindowLemmas.{start_lowest, highest_last}
use Rattle.history_model.specs.Histories.{History}
use Rattle.history_model.specs.Windows.{lowest_of, highest_of, lowest, highest, last_place}
use Rattle.time_windows.specs.declared.span.Span.{Span}
use Rattle.time_windows.specs.History as timed
use Rattle.time_windows.specs.Places.{EndedBefore, BeginsAfter, IsLowest, IsHighest}
use Rattle.write_groups.proofs.Comparing.{int_tells}
use Rattle.write_groups.specs.Modelled.{HasTimes, span_of}

-- a revision that had ended isn't above the lowest place
ended_below : (start : ℕ) (spans : List Span) (at : ℤ) (revision : ℕ) → EndedBefore spans at revision → revision ≤ lowest_of start (map span_of spans) at
ended_below start spans at revision (k, s, l, e, p) = go spans k l e
  where
    go : (xs : List Span) (k : ℕ) → k < length xs → get_or xs k s ≡ s → revision ≤ lowest_of start (map span_of xs) at
    go [] k l e = absurd (omega arith)
    go (x ∷ xs) zero l e = by (int_tells x.hi.0 at)
      where
        by : ((int_lt x.hi.0 at ≡ true) × (x.hi.0 <ℤ at)) ⊎ ((int_lt x.hi.0 at ≡ false) × (at ≤ℤ x.hi.0)) → revision ≤ lowest_of start (map span_of (x ∷ xs)) at
        by (inl t) = rw t.0 (let same : x.revision ≡ revision = ap (λ (z : Span). z.revision) e ∙ p.0 in omega arith)
        by (inr t) = absurd (let ended : x.hi.0 <ℤ at = rw (ap (λ (z : Span). z.hi.0) e) p.1 in let not : at ≤ℤ x.hi.0 = t.1 in omega (arith, ints))
    go (x ∷ xs) (suc k) l e = let rest : revision ≤ lowest_of start (map span_of xs) at = go xs k (omega arith) e in omega arith

-- what isn't below the start and below no revision that had ended isn't below the lowest place
above_ended : (start : ℕ) (spans : List Span) (at : ℤ) (place : ℕ) → start ≤ place → ((revision : ℕ) → EndedBefore spans at revision → revision ≤ place) → lowest_of start (map span_of spans) at ≤ place
above_ended start [] at place s h = s
above_ended start (x ∷ xs) at place s h =
    go (above_ended start xs at place s (λ revision a. h revision (Any-tail (λ (span : Span). (span.revision ≡ revision) × (span.hi.0 <ℤ at)) x xs a))) (int_tells x.hi.0 at)
  where
    go : lowest_of start (map span_of xs) at ≤ place → ((int_lt x.hi.0 at ≡ true) × (x.hi.0 <ℤ at)) ⊎ ((int_lt x.hi.0 at ≡ false) × (at ≤ℤ x.hi.0)) → lowest_of start (map span_of (x ∷ xs)) at ≤ place
    go rest (inl t) = rw t.0 (let first : x.revision ≤ place = h x.revision (Any-head (λ (span : Span). (span.revision ≡ x.revision) × (span.hi.0 <ℤ at)) x xs (refl, t.1)) in omega (arith, rest))
    go rest (inr t) = rw t.0 (omega (arith, rest))

lowest_same : (start : ℕ) (spans : List Span) (at : ℤ) (place : ℕ) → IsLowest start spans at place → place ≡ lowest_of start (map span_of spans) at
lowest_same start spans at place l = omega (arith, upto l.reached, above_ended start spans at place l.from_start l.greatest)
  where
    upto : (place ≡ start) ⊎ EndedBefore spans at place → place ≤ lowest_of start (map span_of spans) at
    upto (inl e) = omega (arith, start_lowest start (map span_of spans) at)
    upto (inr a) = ended_below start spans at place a

pub lowest_is : (windows : timed.History) (h : History) (at : ℤ) (place : ℕ) → HasTimes windows h → IsLowest windows.start windows.spans at place → place ≡ lowest h at
lowest_is windows h at place t l = rw (t.start, t.spans) (lowest_same windows.start windows.spans at place l)

-- a revision that had not begun is above the highest place
begun_above : (spans : List Span) (at : ℤ) (revision : ℕ) → BeginsAfter spans at revision → highest_of (map span_of spans) at ≤ revision - 1
begun_above spans at revision (k, s, l, e, p) = go spans k l e
  where
    go : (xs : List Span) (k : ℕ) → k < length xs → get_or xs k s ≡ s → highest_of (map span_of xs) at ≤ revision - 1
    go [] k l e = absurd (omega arith)
    go (x ∷ xs) zero l e = by (int_tells at x.lo.0)
      where
        by : ((int_lt at x.lo.0 ≡ true) × (at <ℤ x.lo.0)) ⊎ ((int_lt at x.lo.0 ≡ false) × (x.lo.0 ≤ℤ at)) → highest_of (map span_of (x ∷ xs)) at ≤ revision - 1
        by (inl t) = rw t.0 (let same : x.revision ≡ revision = ap (λ (z : Span). z.revision) e ∙ p.0 in omega arith)
        by (inr t) = absurd (let begins : at <ℤ x.lo.0 = rw (ap (λ (z : Span). z.lo.0) e) p.1 in let not : x.lo.0 ≤ℤ at = t.1 in omega (arith, ints))
    go (x ∷ xs) (suc k) l e = let rest : highest_of (map span_of xs) at ≤ revision - 1 = go xs k (omega arith) e in omega arith

below_begun : (spans : List Span) (at : ℤ) (place : ℕ) → place ≤ last_place → ((revision : ℕ) → BeginsAfter spans at revision → place < revision) → place ≤ highest_of (map span_of spans) at
below_begun [] at place s h = s
below_begun (x ∷ xs) at place s h =
    go (below_begun xs at place s (λ revision a. h revision (Any-tail (λ (span : Span). (span.revision ≡ revision) × (at <ℤ span.lo.0)) x xs a))) (int_tells at x.lo.0)
  where
    go : place ≤ highest_of (map span_of xs) at → ((int_lt at x.lo.0 ≡ true) × (at <ℤ x.lo.0)) ⊎ ((int_lt at x.lo.0 ≡ false) × (x.lo.0 ≤ℤ at)) → place ≤ highest_of (map span_of (x ∷ xs)) at
    go rest (inl t) = rw t.0 (let first : place < x.revision = h x.revision (Any-head (λ (span : Span). (span.revision ≡ x.revision) × (at <ℤ span.lo.0)) x xs (refl, t.1)) in omega (arith, rest))
    go rest (inr t) = rw t.0 (omega (arith, rest))

highest_same : (spans : List Span) (at : ℤ) (place : ℕ) → place ≤ last_place → IsHighest spans at place → place ≡ highest_of (map span_of spans) at
highest_same spans at place s l = omega (arith, upto l.reached, below_begun spans at place s l.least)
  where
    upto : (place ≡ last_place) ⊎ BeginsAfter spans at (place + 1) → highest_of (map span_of spans) at ≤ place
    upto (inl e) = omega (arith, highest_last (map span_of spans) at)
    upto (inr a) = omega (arith, begun_above spans at (place + 1) a)

pub highest_is : (windows : timed.History) (h : History) (at : ℤ) (place : ℕ) → place ≤ last_place → HasTimes windows h → IsHighest windows.spans at place → place ≡ highest h at
highest_is windows h at place s t l = rw t.spans (highest_same windows.spans at place s l)
