-- Marks that are raised one after another to the latest moment so far.
use Rattle.std.proofs.Common.{◌≡◌, ◌≢◌, ℕ, ◌+◌, ◌-◌, ◌<◌, ◌≤◌, ◌<ℤ◌, ◌≤ℤ◌, ⊎_elim, List, length, get_or, set, take, refl, sym, ◌∙◌, subst, ap, arith}
use Rattle.std.proofs.lemmas.Bool.{cases_eq}
use Rattle.std.proofs.lemmas.Int.{ints}
use Rattle.std.proofs.lemmas.List.{get_or_default, get_or-set_other, get_or-set_same, get_or-take, length-set, length-take}
use Rattle.std.proofs.lemmas.List.Elements.{All-more, All-weaker}
use Rattle.base_types.proofs.Quantifiers.{Any-longer, Any-last}
use Rattle.base_types.specs.declared.kubernetes.revision.Moment.{Moment}
use Rattle.strict_order.specs.declared.latest.LatestMark.{LatestMark}
use Rattle.strict_order.specs.Latest.{IsLatestOf, IsLatestSoFar}

-- the first marks have the latest moment so far, and the others are as they were
pub record IsRaised (order marks : List LatestMark) (i : ℕ) : Type 0 where
  pub long : length marks ≡ length order
  pub numbers : (k : ℕ) (d : LatestMark) → k < length order → (get_or marks k d).number ≡ (get_or order k d).number
  pub raised : (k : ℕ) (d : LatestMark) → k < i → k < length order → IsLatestOf (take (k + 1) order) (get_or marks k d).lo
  pub kept : (k : ℕ) (d : LatestMark) → i ≤ k → get_or marks k d ≡ get_or order k d

-- the latest of one mark is its own
pub IsLatestOf-first : (order : List LatestMark) (k : ℕ) (d : LatestMark) → k ≡ 0 → 0 < length order → IsLatestOf (take (k + 1) order) (get_or order k d).lo
IsLatestOf-first order k d is_first within =
    let here : k < length order = omega arith in
    record {
      among = Any-last (λ mark. mark.lo ≡ (get_or order k d).lo) k order d here refl;
      bound = λ j e below.
          let zeroth : j ≡ k = omega (arith, length-take (k + 1) order) in
          let same : get_or (take (k + 1) order) j e ≡ get_or order k d = get_or-take (k + 1) order j e (omega arith) ∙ ap (λ n. get_or order n e) zeroth ∙ get_or_default order k e d here in
          subst (λ (mark : LatestMark). mark.lo.0 ≤ℤ (get_or order k d).lo.0) (sym same) (omega (arith, ints));
    }

-- one mark more, which is no later
pub IsLatestOf-kept : (order : List LatestMark) (i : ℕ) (d : LatestMark) (moment : Moment) → i < length order → (get_or order i d).lo.0 ≤ℤ moment.0 → IsLatestOf (take i order) moment → IsLatestOf (take (i + 1) order) moment
IsLatestOf-kept order i d moment within below latest = record {
  among = Any-longer (λ mark. mark.lo ≡ moment) i order within latest.among;
  bound = All-more (λ mark. mark.lo.0 ≤ℤ moment.0) order i d within latest.bound below;
}

-- one mark more, which is later
pub IsLatestOf-taken : (order : List LatestMark) (i : ℕ) (d : LatestMark) (moment : Moment) → i < length order → moment.0 ≤ℤ (get_or order i d).lo.0 → IsLatestOf (take i order) moment → IsLatestOf (take (i + 1) order) (get_or order i d).lo
IsLatestOf-taken order i d moment within below latest = record {
  among = Any-last (λ mark. mark.lo ≡ (get_or order i d).lo) i order d within refl;
  bound = All-more (λ mark. mark.lo.0 ≤ℤ (get_or order i d).lo.0) order i d within
      (All-weaker (λ mark. mark.lo.0 ≤ℤ moment.0) (λ mark. mark.lo.0 ≤ℤ (get_or order i d).lo.0) (λ mark early. omega (arith, ints)) (take i order) latest.bound)
      (omega (arith, ints));
}

-- at the start the first mark alone is so
pub IsRaised-one : (order : List LatestMark) → IsRaised order order 1
IsRaised-one order = record {
  long = refl;
  numbers = λ k d within. refl;
  raised = λ k d first within. IsLatestOf-first order k d (omega arith) (omega arith);
  kept = λ k d above. refl;
}

-- a mark that takes the place of one of the list, and changes no other
pub record Replaces (marks after : List LatestMark) (i : ℕ) (mark : LatestMark) : Type 0 where
  pub long : length after ≡ length marks
  pub here : (d : LatestMark) → get_or after i d ≡ mark
  pub others : (k : ℕ) (d : LatestMark) → k ≢ i → get_or after k d ≡ get_or marks k d

pub IsRaised-more : (order marks after : List LatestMark) (i : ℕ) (mark : LatestMark) → i < length order → IsRaised order marks i → Replaces marks after i mark
    → mark.number ≡ (get_or order i mark).number → IsLatestOf (take (i + 1) order) mark.lo → IsRaised order after (i + 1)
IsRaised-more order marks after i mark within raised replaces number latest = record {
  long = (let long = replaces.long in let before = raised.long in omega arith);
  numbers = λ k d below. ⊎_elim
      (λ is. subst (λ n. (get_or after n d).number ≡ (get_or order n d).number) (sym is)
      (ap (λ (m : LatestMark). m.number) (replaces.here d) ∙ number ∙ ap (λ (m : LatestMark). m.number) (get_or_default order i mark d within)))
      (λ other. ap (λ (m : LatestMark). m.number) (replaces.others k d other) ∙ raised.numbers k d below)
      (cases_eq k i);
  raised = λ k d first below. ⊎_elim
      (λ is. subst (λ n. IsLatestOf (take (n + 1) order) (get_or after n d).lo) (sym is) (subst (λ (m : LatestMark). IsLatestOf (take (i + 1) order) m.lo) (sym (replaces.here d)) latest))
      (λ other. subst (λ (m : LatestMark). IsLatestOf (take (k + 1) order) m.lo) (sym (replaces.others k d other)) (raised.raised k d (omega arith) below))
      (cases_eq k i);
  kept = λ k d above. replaces.others k d (omega arith) ∙ raised.kept k d (omega arith);
}

pub IsLatestSoFar-end : (order marks : List LatestMark) (i : ℕ) → length order ≤ i → IsRaised order marks i → IsLatestSoFar order marks
IsLatestSoFar-end order marks i ended raised = record {
  long = raised.long;
  numbers = raised.numbers;
  moments = λ k d within. raised.raised k d (omega arith) within;
}

pub Replaces-set : (marks : List LatestMark) (i : ℕ) (mark : LatestMark) → i < length marks → Replaces marks (set marks i mark) i mark
Replaces-set marks i mark within = record {
  long = length-set marks i mark;
  here = λ d. get_or-set_same marks i mark d within;
  others = λ k d other. get_or-set_other marks i k mark d other;
}

pub Replaces-same : (marks : List LatestMark) (i : ℕ) (d : LatestMark) → i < length marks → Replaces marks marks i (get_or marks i d)
Replaces-same marks i d within = record {
  long = refl;
  here = λ e. get_or_default marks i e d within;
  others = λ k e other. refl;
}

-- the mark before the next one has the latest moment of those before
pub latest_before : (order marks : List LatestMark) (i : ℕ) (d : LatestMark) → 0 < i → i < length order → IsRaised order marks i → IsLatestOf (take i order) (get_or marks (i - 1) d).lo
latest_before order marks i d after_first within raised =
    let next : i - 1 + 1 ≡ i = omega arith in
    subst (λ n. IsLatestOf (take n order) (get_or marks (i - 1) d).lo) next (raised.raised (i - 1) d (omega arith) (omega arith))

-- the mark that is raised, and the one that stays
pub IsRaised-set : (order marks : List LatestMark) (i : ℕ) (d mark : LatestMark) → 0 < i → i < length order → IsRaised order marks i
    → mark.number ≡ (get_or marks i d).number → mark.lo ≡ (get_or marks (i - 1) d).lo → (get_or marks i d).lo.0 <ℤ (get_or marks (i - 1) d).lo.0 → IsRaised order (set marks i mark) (i + 1)
IsRaised-set order marks i d mark after_first within raised number lo below =
    let long = raised.long in
    let same : get_or marks i d ≡ get_or order i d = raised.kept i d (omega arith) in
    let later : (get_or order i d).lo.0 ≤ℤ (get_or marks (i - 1) d).lo.0 = subst (λ (m : LatestMark). m.lo.0 ≤ℤ (get_or marks (i - 1) d).lo.0) same (omega (arith, ints)) in
    IsRaised-more order marks (set marks i mark) i mark within raised (Replaces-set marks i mark (omega arith))
    (number ∙ ap (λ (m : LatestMark). m.number) same ∙ ap (λ (m : LatestMark). m.number) (get_or_default order i d mark within))
    (subst (λ moment. IsLatestOf (take (i + 1) order) moment) (sym lo) (IsLatestOf-kept order i d _ within later (latest_before order marks i d after_first within raised)))

pub IsRaised-same : (order marks : List LatestMark) (i : ℕ) (d : LatestMark) → 0 < i → i < length order → IsRaised order marks i → (get_or marks (i - 1) d).lo.0 ≤ℤ (get_or marks i d).lo.0 → IsRaised order marks (i + 1)
IsRaised-same order marks i d after_first within raised above =
    let long = raised.long in
    let same : get_or marks i d ≡ get_or order i d = raised.kept i d (omega arith) in
    let later : (get_or marks (i - 1) d).lo.0 ≤ℤ (get_or order i d).lo.0 = subst (λ (m : LatestMark). (get_or marks (i - 1) d).lo.0 ≤ℤ m.lo.0) same above in
    IsRaised-more order marks marks i (get_or marks i d) within raised (Replaces-same marks i d (omega arith))
    (ap (λ (m : LatestMark). m.number) same ∙ ap (λ (m : LatestMark). m.number) (get_or_default order i d _ within))
    (subst (λ (m : LatestMark). IsLatestOf (take (i + 1) order) m.lo) (sym same) (IsLatestOf-taken order i d _ within later (latest_before order marks i d after_first within raised)))
