-- Marks that get, one after another, the greatest revision so far or the least from there on.
use Rattle.std.proofs.Common.{◌≡◌, ◌≢◌, ℕ, suc, ◌+◌, ◌-◌, ◌<◌, ◌≤◌, ⊎_elim, List, length, get_or, set, take, drop, max, min, Any, refl, sym, ◌∙◌, subst, ap, arith}
use Rattle.std.proofs.lemmas.Bool.{cases_eq, cases_lt}
use Rattle.std.proofs.lemmas.List.{get_or_default, get_or-drop, get_or-set_other, get_or-set_same, get_or-take, length-drop, length-set, length-take}
use Rattle.std.proofs.lemmas.List.Elements.{All-more, All-weaker}
use Rattle.base_types.proofs.Quantifiers.{Any-at, Any-last, Any-longer}
use Rattle.time_windows.specs.declared.mark.SpanMark.{SpanMark}
use Rattle.time_windows.specs.Marks.{IsGreatestOf, IsGreatestSoFar, IsLeastFromThere, IsLeastOf}

-- the mark at a place gets another revision, and nothing else changes
pub record Gets (marks after : List SpanMark) (i revision : ℕ) : Type 0 where
  pub long : length after ≡ length marks
  pub here : (d : SpanMark) → (get_or after i d).revision ≡ revision
  pub moments : (k : ℕ) (d : SpanMark) → (get_or after k d).at ≡ (get_or marks k d).at
  pub others : (k : ℕ) (d : SpanMark) → k ≢ i → get_or after k d ≡ get_or marks k d

pub Gets-set : (marks : List SpanMark) (i : ℕ) (e mark : SpanMark) → i < length marks → mark.at ≡ (get_or marks i e).at → Gets marks (set marks i mark) i mark.revision
Gets-set marks i e mark within same = record {
  long = length-set marks i mark;
  here = λ d. ap (λ (m : SpanMark). m.revision) (get_or-set_same marks i mark d within);
  moments = λ k d. ⊎_elim
      (λ is. subst (λ n. (get_or (set marks i mark) n d).at ≡ (get_or marks n d).at) (sym is)
      (ap (λ (m : SpanMark). m.at) (get_or-set_same marks i mark d within) ∙ same ∙ ap (λ (m : SpanMark). m.at) (get_or_default marks i e d within)))
      (λ other. ap (λ (m : SpanMark). m.at) (get_or-set_other marks i k mark d other))
      (cases_eq k i);
  others = λ k d other. get_or-set_other marks i k mark d other;
}

-- the first marks have the greatest revision so far, and the others are as they were
pub record IsRaised (order marks : List SpanMark) (i : ℕ) : Type 0 where
  pub long : length marks ≡ length order
  pub moments : (k : ℕ) (d : SpanMark) → k < length order → (get_or marks k d).at ≡ (get_or order k d).at
  pub raised : (k : ℕ) (d : SpanMark) → k < i → k < length order → IsGreatestOf (take (k + 1) order) (get_or marks k d).revision
  pub kept : (k : ℕ) (d : SpanMark) → i ≤ k → get_or marks k d ≡ get_or order k d

-- of the first mark alone
IsGreatestOf-first : (order : List SpanMark) (k : ℕ) (d : SpanMark) → k ≡ 0 → 0 < length order → IsGreatestOf (take (k + 1) order) (get_or order k d).revision
IsGreatestOf-first order k d is_first within =
    let here : k < length order = omega arith in
    record {
      among = Any-last (λ mark. mark.revision ≡ (get_or order k d).revision) k order d here refl;
      bound = λ j e below.
          let zeroth : j ≡ k = omega (arith, length-take (k + 1) order) in
          let same : get_or (take (k + 1) order) j e ≡ get_or order k d = get_or-take (k + 1) order j e (omega arith) ∙ ap (λ n. get_or order n e) zeroth ∙ get_or_default order k e d here in
          subst (λ (mark : SpanMark). mark.revision ≤ (get_or order k d).revision) (sym same) (omega arith);
    }

-- one mark more
IsGreatestOf-more : (order : List SpanMark) (i : ℕ) (d : SpanMark) (before : ℕ) → i < length order → IsGreatestOf (take i order) before → IsGreatestOf (take (i + 1) order) (max (get_or order i d).revision before)
IsGreatestOf-more order i d before within greatest = record {
  among = ⊎_elim
      (λ less.
      let same : max (get_or order i d).revision before ≡ before = omega arith in
      subst (λ n. Any (λ mark. mark.revision ≡ n) (take (i + 1) order)) (sym same) (Any-longer (λ mark. mark.revision ≡ before) i order within greatest.among))
      (λ more.
      let same : (get_or order i d).revision ≡ max (get_or order i d).revision before = omega arith in
      Any-last (λ mark. mark.revision ≡ max (get_or order i d).revision before) i order d within same)
      (cases_lt (get_or order i d).revision before);
  bound = All-more (λ mark. mark.revision ≤ max (get_or order i d).revision before) order i d within
      (All-weaker (λ mark. mark.revision ≤ before) (λ mark. mark.revision ≤ max (get_or order i d).revision before) (λ mark low. omega arith) (take i order) greatest.bound)
      (omega arith);
}

pub IsRaised-one : (order : List SpanMark) → IsRaised order order 1
IsRaised-one order = record {
  long = refl;
  moments = λ k d within. refl;
  raised = λ k d first within. IsGreatestOf-first order k d (omega arith) (omega arith);
  kept = λ k d above. refl;
}

pub IsRaised-more : (order marks after : List SpanMark) (i : ℕ) (d : SpanMark) → 0 < i → i < length order → IsRaised order marks i
    → Gets marks after i (max (get_or marks i d).revision (get_or marks (i - 1) d).revision) → IsRaised order after (i + 1)
IsRaised-more order marks after i d after_first within raised gets =
    let long = raised.long in
    let next : i - 1 + 1 ≡ i = omega arith in
    let before : IsGreatestOf (take i order) (get_or marks (i - 1) d).revision =
    subst (λ n. IsGreatestOf (take n order) (get_or marks (i - 1) d).revision) next (raised.raised (i - 1) d (omega arith) (omega arith)) in
    let here : IsGreatestOf (take (i + 1) order) (max (get_or marks i d).revision (get_or marks (i - 1) d).revision) =
    subst (λ (mark : SpanMark). IsGreatestOf (take (i + 1) order) (max mark.revision (get_or marks (i - 1) d).revision)) (sym (raised.kept i d (omega arith))) (IsGreatestOf-more order i d _ within before) in
    record {
      long = gets.long ∙ raised.long;
      moments = λ k e below. gets.moments k e ∙ raised.moments k e below;
      raised = λ k e first below. ⊎_elim
          (λ is. subst (λ n. IsGreatestOf (take (n + 1) order) (get_or after n e).revision) (sym is) (subst (λ r. IsGreatestOf (take (i + 1) order) r) (sym (gets.here e)) here))
          (λ other. subst (λ (mark : SpanMark). IsGreatestOf (take (k + 1) order) mark.revision) (sym (gets.others k e other)) (raised.raised k e (omega arith) below))
          (cases_eq k i);
      kept = λ k e above. gets.others k e (omega arith) ∙ raised.kept k e (omega arith);
    }

pub IsGreatestSoFar-end : (order marks : List SpanMark) (i : ℕ) → length order ≤ i → IsRaised order marks i → IsGreatestSoFar order marks
IsGreatestSoFar-end order marks i ended raised = record {
  long = raised.long;
  moments = raised.moments;
  revisions = λ k d within. raised.raised k d (omega arith) within;
}

-- the marks from a place on have the least revision from there on, and the others are as they were
pub record IsLowered (order marks : List SpanMark) (i : ℕ) : Type 0 where
  pub long : length marks ≡ length order
  pub moments : (k : ℕ) (d : SpanMark) → k < length order → (get_or marks k d).at ≡ (get_or order k d).at
  pub lowered : (k : ℕ) (d : SpanMark) → i ≤ k → k < length order → IsLeastOf (drop k order) (get_or marks k d).revision
  pub kept : (k : ℕ) (d : SpanMark) → k < i → get_or marks k d ≡ get_or order k d

-- what stands behind a place, and at it
at_drop : (order : List SpanMark) (i j : ℕ) (d e : SpanMark) → j ≡ 0 → i < length order → get_or (drop i order) j e ≡ get_or order i d
at_drop order i j d e is_first within =
    let here : i + j ≡ i = omega arith in
    get_or-drop i order j e ∙ ap (λ n. get_or order n e) here ∙ get_or_default order i e d within

behind_drop : (order : List SpanMark) (i j : ℕ) (d : SpanMark) → 0 < j → get_or (drop i order) j d ≡ get_or (drop (i + 1) order) (j - 1) d
behind_drop order i j d behind =
    let there : i + j ≡ i + 1 + (j - 1) = omega arith in
    get_or-drop i order j d ∙ ap (λ n. get_or order n d) there ∙ sym (get_or-drop (i + 1) order (j - 1) d)

IsLeastOf-last : (order : List SpanMark) (i : ℕ) (d : SpanMark) → i + 1 ≡ length order → IsLeastOf (drop i order) (get_or order i d).revision
IsLeastOf-last order i d last =
    let within : i < length order = omega arith in
    let among : 0 < length (drop i order) = omega (arith, length-drop i order) in
    let here : (get_or (drop i order) 0 d).revision ≡ (get_or order i d).revision = ap (λ (m : SpanMark). m.revision) (at_drop order i 0 d d refl within) in
    record {
      among = Any-at (λ mark. mark.revision ≡ (get_or order i d).revision) (drop i order) 0 d among here;
      bound = λ j e below.
          let zeroth : j ≡ 0 = omega (arith, length-drop i order) in
          let same : get_or (drop i order) j e ≡ get_or order i d = at_drop order i j d e zeroth within in
          subst (λ (mark : SpanMark). (get_or order i d).revision ≤ mark.revision) (sym same) (omega arith);
    }

IsLeastOf-more : (order : List SpanMark) (i : ℕ) (d : SpanMark) (after : ℕ) → i < length order → IsLeastOf (drop (i + 1) order) after → IsLeastOf (drop i order) (min (get_or order i d).revision after)
IsLeastOf-more order i d after within least = record {
  among = ⊎_elim
      (λ own.
      let among : 0 < length (drop i order) = omega (arith, length-drop i order) in
      let first : (get_or (drop i order) 0 d).revision ≡ (get_or order i d).revision = ap (λ (m : SpanMark). m.revision) (at_drop order i 0 d d refl within) in
      Any-at (λ mark. mark.revision ≡ min (get_or order i d).revision after) (drop i order) 0 d among (omega arith))
      (λ other.
      let any = least.among in
      let among : suc any.0 < length (drop i order) = (let below = any.2 in omega (arith, length-drop i order, length-drop (i + 1) order)) in
      let back : suc any.0 - 1 ≡ any.0 = omega arith in
      let there : get_or (drop i order) (suc any.0) any.1 ≡ any.1 = behind_drop order i (suc any.0) any.1 (omega arith) ∙ ap (λ n. get_or (drop (i + 1) order) n any.1) back ∙ any.3 in
      let revision = any.4 in
      (suc any.0, any.1, among, there, omega arith))
      (cases_lt (get_or order i d).revision after);
  bound = λ j e below. ⊎_elim
      (λ first.
      let same : get_or (drop i order) j e ≡ get_or order i d = at_drop order i j d e (omega arith) within in
      subst (λ (mark : SpanMark). min (get_or order i d).revision after ≤ mark.revision) (sym same) (omega arith))
      (λ behind.
      let among : j - 1 < length (drop (i + 1) order) = omega (arith, length-drop i order, length-drop (i + 1) order) in
      let low = least.bound (j - 1) e among in
      subst (λ (mark : SpanMark). min (get_or order i d).revision after ≤ mark.revision) (sym (behind_drop order i j e (omega arith))) (omega arith))
      (cases_lt j 1);
}

pub IsLowered-last : (order : List SpanMark) → IsLowered order order (length order - 1)
IsLowered-last order = record {
  long = refl;
  moments = λ k d within. refl;
  lowered = λ k d last within. IsLeastOf-last order k d (omega arith);
  kept = λ k d before. refl;
}

pub IsLowered-more : (order marks after : List SpanMark) (i : ℕ) (d : SpanMark) → 0 < i → i < length order → IsLowered order marks i
    → Gets marks after (i - 1) (min (get_or marks (i - 1) d).revision (get_or marks i d).revision) → IsLowered order after (i - 1)
IsLowered-more order marks after i d after_first within lowered gets =
    let long = lowered.long in
    let next : i - 1 + 1 ≡ i = omega arith in
    let behind : IsLeastOf (drop (i - 1 + 1) order) (get_or marks i d).revision = subst (λ n. IsLeastOf (drop n order) (get_or marks i d).revision) (sym next) (lowered.lowered i d (omega arith) within) in
    let here : IsLeastOf (drop (i - 1) order) (min (get_or marks (i - 1) d).revision (get_or marks i d).revision) =
    subst (λ (mark : SpanMark). IsLeastOf (drop (i - 1) order) (min mark.revision (get_or marks i d).revision)) (sym (lowered.kept (i - 1) d (omega arith))) (IsLeastOf-more order (i - 1) d _ (omega arith) behind) in
    record {
      long = gets.long ∙ lowered.long;
      moments = λ k e below. gets.moments k e ∙ lowered.moments k e below;
      lowered = λ k e from below. ⊎_elim
          (λ is. subst (λ n. IsLeastOf (drop n order) (get_or after n e).revision) (sym is) (subst (λ r. IsLeastOf (drop (i - 1) order) r) (sym (gets.here e)) here))
          (λ other. subst (λ (mark : SpanMark). IsLeastOf (drop k order) mark.revision) (sym (gets.others k e other)) (lowered.lowered k e (omega arith) below))
          (cases_eq k (i - 1));
      kept = λ k e before. gets.others k e (omega arith) ∙ lowered.kept k e (omega arith);
    }

pub IsLeastFromThere-end : (order marks : List SpanMark) (i : ℕ) → i ≡ 0 → IsLowered order marks i → IsLeastFromThere order marks
IsLeastFromThere-end order marks i ended lowered = record {
  long = lowered.long;
  moments = lowered.moments;
  revisions = λ k d within. lowered.lowered k d (omega arith) within;
}
