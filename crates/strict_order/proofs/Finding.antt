-- From a place in the marks to what the things before a number say.
use Rattle.std.proofs.Common.{◌≡◌, ℕ, zero, suc, cond, ◌+◌, ◌-◌, ◌<◌, ◌≤◌, ◌≤ℤ◌, ◌⊎◌, ⊎_elim, inl, inr, Bool, true, false, ltb, List, length, get_or, map, take, refl, sym, ◌∙◌, subst, arith}
use Rattle.std.specs.List.Sorted.{IsPartitionPoint, IsPartitionedBy}
use Rattle.std.specs.Ordering.{int_cmp, is_lt}
use Rattle.std.proofs.lemmas.Bool.{cases_lt, lt-ltb, ltb-false, ltb-true}
use Rattle.std.proofs.lemmas.Int.{ints}
use Rattle.std.proofs.lemmas.List.{get_or-take, length-take}
use Rattle.std.proofs.lemmas.List.Sorted.{All-permutation, IsPermutation-sym}
use Rattle.base_types.proofs.Integers.{ge_from_test, lt_from_test}
use Rattle.base_types.proofs.Quantifiers.{All-unmap, Any-permutation, Any-unmap}
use Rattle.base_types.specs.declared.kubernetes.revision.Moment.{Moment}
use Rattle.strict_order.specs.declared.latest.LatestMark.{LatestMark}
use Rattle.strict_order.specs.declared.thing.Thing.{Thing}
use Rattle.strict_order.specs.Latest.{IsLatest, IsLatestOf, mark_of}
use Rattle.strict_order.specs.Printed.{IsPrinted}

-- numbers that rise from each mark to the next rise all the way
rises : (order : List LatestMark) → ((k : ℕ) (d : LatestMark) → k + 1 < length order → (get_or order k d).number ≤ (get_or order (k + 1) d).number)
    → (i n : ℕ) (d : LatestMark) → i + n < length order → (get_or order i d).number ≤ (get_or order (i + n) d).number
rises order rising i zero d within = let same : i + 0 ≡ i = omega arith in subst (λ j. (get_or order i d).number ≤ (get_or order j d).number) (sym same) (omega arith)
rises order rising i (suc n) d within =
    let upto = rises order rising i n d (omega arith) in
    let last = rising (i + n) d (omega arith) in
    let same : i + n + 1 ≡ i + suc n = omega arith in
    subst (λ j. (get_or order i d).number ≤ (get_or order j d).number) same (omega arith)

-- the marks below a number stand in front
pub marks_parted : (things : List Thing) (marks : List LatestMark) (number : ℕ) → IsLatest things marks → IsPartitionedBy (λ mark. ltb mark.number number) marks
marks_parted things marks number latest = λ i j d upto within passes.
    let long = latest.latest.long in
    let below : (get_or marks j d).number < number = ltb-true _ _ passes in
    let at_i = latest.latest.numbers i d (omega arith) in
    let at_j = latest.latest.numbers j d (omega arith) in
    let same : i + (j - i) ≡ j = omega arith in
    let up : (get_or latest.order i d).number ≤ (get_or latest.order j d).number =
    subst (λ n. (get_or latest.order i d).number ≤ (get_or latest.order n d).number) same (rises latest.order latest.sorted.rising i (j - i) d (omega arith)) in
    lt-ltb _ _ (omega arith)

-- the place where the marks reach a number
abbrev pub IsPlaceOf : List LatestMark → ℕ → ℕ → Type 0
IsPlaceOf marks number place = IsPartitionPoint (λ mark. ltb mark.number number ≡ true) (λ mark. ltb mark.number number ≡ false) marks place

-- no thing is before the first mark's number
pub IsPrinted-own : (things : List Thing) (marks : List LatestMark) (thing : Thing) (place : ℕ) → IsLatest things marks → IsPlaceOf marks thing.least place → place ≡ 0 → IsPrinted things thing thing.lo
IsPrinted-own things marks thing place latest found first = record {
  reached = inl refl;
  own = omega (arith, ints);
  others = All-unmap mark_of (λ mark. mark.number < thing.least → mark.lo.0 ≤ℤ thing.lo.0) things
      (All-permutation (λ mark. mark.number < thing.least → mark.lo.0 ≤ℤ thing.lo.0) latest.order (map mark_of things) (IsPermutation-sym _ _ latest.sorted.same) (λ k d within before.
      let long = latest.latest.long in
      let number = latest.latest.numbers k d within in
      let above = ltb-false _ _ (found.1 k d (omega arith) (omega arith)) in
      absurd (omega arith)));
}

-- the later of two moments
pub record IsLater (a b moment : Moment) : Type 0 where
  pub is : (moment ≡ a) ⊎ (moment ≡ b)
  pub first : a.0 ≤ℤ moment.0
  pub second : b.0 ≤ℤ moment.0

pub IsLater-max : (a b : Moment) → IsLater a b (cond (is_lt (int_cmp b.0 a.0)) a b)
IsLater-max a b = elim_test (is_lt (int_cmp b.0 a.0)) refl
  where
    elim_test : (t : Bool) → is_lt (int_cmp b.0 a.0) ≡ t → IsLater a b (cond t a b)
    elim_test true is = let below = lt_from_test b.0 a.0 is in record { is = inl refl; first = omega (arith, ints); second = omega (arith, ints) }
    elim_test false is = let above = ge_from_test b.0 a.0 is in record { is = inr refl; first = omega (arith, ints); second = omega (arith, ints) }

-- the mark before the place has the latest moment of the things before the number
pub IsPrinted-of : (things : List Thing) (marks : List LatestMark) (thing : Thing) (place : ℕ) (d : LatestMark) (moment : Moment) → IsLatest things marks → IsPlaceOf marks thing.least place
    → 0 < place → place ≤ length marks → IsLater thing.lo (get_or marks (place - 1) d).lo moment → IsPrinted things thing moment
IsPrinted-of things marks thing place d moment latest found after_first upto later =
    let long = latest.latest.long in
    let before = latest.latest.moments (place - 1) d (omega arith) in
    let next : place - 1 + 1 ≡ place = omega arith in
    let front : IsLatestOf (take place latest.order) (get_or marks (place - 1) d).lo = subst (λ n. IsLatestOf (take n latest.order) (get_or marks (place - 1) d).lo) next before in
    record {
      reached = ⊎_elim inl (λ is_mark. inr (
          let P : LatestMark → Type 0 = λ mark. (mark.number < thing.least) × (moment ≡ mark.lo) in
          let any = front.among in
          let within : any.0 < length latest.order = (let among = any.2 in omega (arith, length-take place latest.order)) in
          let below : any.0 < place = (let among = any.2 in omega (arith, length-take place latest.order)) in
          let number = latest.latest.numbers any.0 any.1 within in
          let passes : (get_or marks any.0 any.1).number < thing.least = ltb-true _ _ (found.0 any.0 any.1 (omega arith) below) in
          let same : get_or latest.order any.0 any.1 ≡ any.1 = sym (get_or-take place latest.order any.0 any.1 below) ∙ any.3 in
          let low : any.1.number < thing.least = subst (λ (m : LatestMark). m.number < thing.least) same (omega arith) in
          Any-unmap mark_of P things (Any-permutation P latest.order (map mark_of things) (IsPermutation-sym _ _ latest.sorted.same) (any.0, any.1, within, same, (low, is_mark ∙ sym any.4))))) later.is;
      own = later.first;
      others = All-unmap mark_of (λ mark. mark.number < thing.least → mark.lo.0 ≤ℤ moment.0) things
          (All-permutation (λ mark. mark.number < thing.least → mark.lo.0 ≤ℤ moment.0) latest.order (map mark_of things) (IsPermutation-sym _ _ latest.sorted.same) (λ k e within low.
          let number = latest.latest.numbers k e within in
          ⊎_elim
          (λ below.
          let among : k < length (take place latest.order) = omega (arith, length-take place latest.order) in
          let bound : (get_or latest.order k e).lo.0 ≤ℤ (get_or marks (place - 1) d).lo.0 = subst (λ (m : LatestMark). m.lo.0 ≤ℤ (get_or marks (place - 1) d).lo.0) (get_or-take place latest.order k e below) (front.bound k e among) in
          let second = later.second in
          omega (arith, ints))
          (λ above. let fails = ltb-false _ _ (found.1 k e above (omega arith)) in absurd (omega arith))
          (cases_lt k place)));
    }
