-- The things can stand in one list exactly where no two of them cross.
use Rattle.std.proofs.Common.{◌≡◌, ℕ, zero, suc, ◌<◌, ◌≤◌, ◌<ℤ◌, ◌≤ℤ◌, ◌⊎◌, ⊎_elim, inl, inr, List, [], ◌∷◌, length, get_or, map, All, AllPairs, Any, Contains, refl, sym, ◌∙◌, ap, subst, arith}
use Rattle.std.specs.List.{AllZip, zip}
use Rattle.std.specs.List.Sorted.{IsPermutation}
use Rattle.std.proofs.lemmas.Bool.{cases_lt}
use Rattle.std.proofs.lemmas.Int.{ints}
use Rattle.std.proofs.lemmas.List.{get_or_default}
use Rattle.std.proofs.lemmas.List.Elements.{All-cons, All-contains, All-contains_itself, All-head, All-nil, All-tail, All-weaker}
use Rattle.std.proofs.lemmas.List.Sorted.{All-permutation}
use Rattle.std.proofs.lemmas.Slice.Zip.{AllZip-long}
use Rattle.base_types.proofs.Integers.{lt_or_ge}
use Rattle.base_types.proofs.Quantifiers.{Any-head, Any-permutation, Any-tail, Any-unmap, Any-contains}
use Rattle.base_types.specs.declared.kubernetes.revision.Moment.{Moment}
use Rattle.strict_order.specs.declared.thing.Thing.{Thing}
use Rattle.strict_order.specs.Printed.{IsPrinted}
use Rattle.strict_order.specs.Strict.{Standing, IsStrict, NeverFalls, StandsAt}
use Rattle.strict_order.specs.Things.{ComesBefore, Crosses}
use Rattle.strict_order.proofs.Arranging.{Ascends, AllPairs-from_ascends, IsOrder, arranged}
use Rattle.strict_order.proofs.Judging.{crossed_from_late}
use Rattle.strict_order.proofs.Numbering.{IsFit, Timed, map-numbered, numbered, numbered-allowed, numbered-rises}

-- a thing is one of the pairs that it is part of
Any-zip : (P : Thing → Type 0) (things : List Thing) (moments : List Moment) → length moments ≡ length things → Any P things → Any (λ (p : Timed). P p.0) (zip things moments)
Any-zip P things moments long any = go things moments long any.0 any.1 any.2 any.3 any.4
  where
    go : (things : List Thing) (moments : List Moment) → length moments ≡ length things → (k : ℕ) (x : Thing) → k < length things → get_or things k x ≡ x → P x → Any (λ (p : Timed). P p.0) (zip things moments)
    go [] moments long k x within is holds = absurd (omega arith)
    go (t ∷ ts) [] long k x within is holds = absurd (omega arith)
    go (t ∷ ts) (m ∷ ms) long zero x within is holds = Any-head (λ (p : Timed). P p.0) (t, m) (zip ts ms) (subst P (sym is) holds)
    go (t ∷ ts) (m ∷ ms) long (suc k) x within is holds = Any-tail (λ (p : Timed). P p.0) (t, m) (zip ts ms) (go ts ms (omega arith) k x (omega arith) is holds)

-- each thing stands somewhere in the line
stands_in_line : (things : List Thing) (moments : List Moment) (a : Thing) (stands : StandsAt things moments) → Contains things a → Any (λ (s : Standing). s.thing ≡ a) stands.line
stands_in_line things moments a stands among =
    Any-unmap (λ (s : Standing). (s.thing, s.moment)) (λ (p : Timed). p.0 ≡ a) stands.line
    (Any-permutation (λ (p : Timed). p.0 ≡ a) (zip things moments) (map (λ (s : Standing). (s.thing, s.moment)) stands.line) stands.same
    (Any-zip (λ t. t ≡ a) things moments stands.long (Any-contains (λ t. t ≡ a) things a among refl)))

-- along a line that never falls, no greater number stands at an earlier moment
in_line : (line : List Standing) (i j : ℕ) (d : Standing) → AllPairs NeverFalls line → i < length line → j < length line
    → (get_or line i d).number < (get_or line j d).number → (get_or line j d).moment.0 <ℤ (get_or line i d).moment.0 → ⊥
in_line line i j d rising i_within j_within lower earlier = ⊎_elim
    (λ before. let up = rising i j d before j_within in let later = up.0 in omega (arith, ints))
    (λ not_before. ⊎_elim
    (λ after. let up = rising j i d after i_within in let higher = up.1 in omega arith)
    (λ not_after.
    let same : i ≡ j = omega arith in
    let number : (get_or line i d).number ≡ (get_or line j d).number = ap (λ k. (get_or line k d).number) same in
    omega arith)
    (cases_lt j i))
    (cases_lt i j)

-- where things stand in one line, none of them cross
pub uncrossed_from_StandsAt : (things : List Thing) (moments : List Moment) (a b : Thing) → StandsAt things moments → Contains things a → Contains things b → Crosses a b → ⊥
uncrossed_from_StandsAt things moments a b stands a_among b_among crosses =
    let s = stands_in_line things moments a stands a_among in
    let t = stands_in_line things moments b stands b_among in
    let d = s.1 in
    let s_is : (get_or stands.line s.0 d).thing ≡ a = ap (λ (x : Standing). x.thing) s.3 ∙ s.4 in
    let t_is : (get_or stands.line t.0 d).thing ≡ b = ap (λ (x : Standing). x.thing) (get_or_default stands.line t.0 d t.1 t.2 ∙ t.3) ∙ t.4 in
    let first = stands.allowed s.0 d s.2 in
    let second = stands.allowed t.0 d t.2 in
    let low : (get_or stands.line s.0 d).number ≤ a.greatest = subst (λ (x : Thing). (get_or stands.line s.0 d).number ≤ x.greatest) s_is first.not_high in
    let high : b.least ≤ (get_or stands.line t.0 d).number = subst (λ (x : Thing). x.least ≤ (get_or stands.line t.0 d).number) t_is second.not_low in
    let late : a.lo.0 ≤ℤ (get_or stands.line s.0 d).moment.0 = subst (λ (x : Thing). x.lo.0 ≤ℤ (get_or stands.line s.0 d).moment.0) s_is first.not_early in
    let early : (get_or stands.line t.0 d).moment.0 ≤ℤ b.hi.0 = subst (λ (x : Thing). (get_or stands.line t.0 d).moment.0 ≤ℤ x.hi.0) t_is second.not_late in
    let before = crosses.0 in
    let after = crosses.1 in
    in_line stands.line s.0 t.0 d stands.rising s.2 t.2 (omega arith) (omega (arith, ints))

-- things in the order of their moments, those of one moment by their least numbers
abbrev IsNoLater : Timed → Timed → Type 0
IsNoLater p q = (p.1.0 <ℤ q.1.0) ⊎ ((p.1.0 ≡ q.1.0) × (p.0.least ≤ q.0.least))

IsNoLater-order : IsOrder IsNoLater
IsNoLater-order = record {
  decide = λ p q. ⊎_elim
      (λ lower. inl (inl lower))
      (λ upto. ⊎_elim
      (λ higher. inr (inl higher))
      (λ downto.
      let same : p.1.0 ≡ q.1.0 = omega (arith, ints) in
      ⊎_elim (λ less. inl (inr (same, omega arith))) (λ more. inr (inr (sym same, more))) (cases_lt p.0.least q.0.least))
      (lt_or_ge q.1.0 p.1.0))
      (lt_or_ge p.1.0 q.1.0);
  trans = λ p q r before after. ⊎_elim
      (λ lower. ⊎_elim (λ next. inl (omega (arith, ints))) (λ tie. let same = tie.0 in inl (omega (arith, ints))) after)
      (λ tie. ⊎_elim
      (λ next. let same = tie.0 in inl (omega (arith, ints)))
      (λ other. inr (tie.0 ∙ other.0, (let low = tie.1 in let high = other.1 in omega arith)))
      after)
      before;
}

-- a thing with the first moment that it can have, where that isn't too late
record IsFirst (things : List Thing) (p : Timed) : Type 0 where
  stands : Contains things p.0
  printed : IsPrinted things p.0 p.1
  fit : IsFit p

-- its first moment isn't after that of a thing that it comes before
rises_along : (things : List Thing) (q p : Timed) → IsFirst things q → IsFirst things p → ComesBefore q.0 p.0 → q.1.0 ≤ℤ p.1.0
rises_along things q p of_q of_p before = ⊎_elim
    (λ own.
    let same : q.1.0 ≡ q.0.lo.0 = ap (λ (m : Moment). m.0) own in
    let upto : q.0.lo.0 ≤ℤ p.1.0 = All-contains (λ a. ComesBefore a p.0 → a.lo.0 ≤ℤ p.1.0) things q.0 of_p.printed.others of_q.stands before in
    omega (arith, ints))
    (λ any.
    let numbers = of_q.fit.numbers in
    let is = any.4 in
    let same : q.1.0 ≡ any.1.lo.0 = ap (λ (m : Moment). m.0) is.1 in
    let first = is.0 in
    let upto : any.1.lo.0 ≤ℤ p.1.0 = All-contains (λ a. ComesBefore a p.0 → a.lo.0 ≤ℤ p.1.0) things any.1 of_p.printed.others (any.0, any.2, any.3) (omega arith) in
    omega (arith, ints))
    of_q.printed.reached

-- so in the order of the moments no thing comes before an earlier one
no_lower : (things : List Thing) (p q : Timed) → IsFirst things p → IsFirst things q → IsNoLater p q → p.0.least ≤ q.0.greatest
no_lower things p q of_p of_q order = ⊎_elim
    (λ before.
    let back = rises_along things q p of_q of_p before in
    let numbers = of_q.fit.numbers in
    absurd (⊎_elim (λ lower. omega (arith, ints)) (λ tie. let least = tie.1 in omega arith) order))
    (λ not_before. not_before)
    (cases_lt q.0.greatest p.0.least)

Ascends-weaker : (P : Timed → Type 0) (R S : Timed → Timed → Type 0) (ps : List Timed) → ((p q : Timed) → P p → P q → R p q → S p q) → All P ps → Ascends R ps → Ascends S ps
Ascends-weaker P R S [] weaker all ascends = tt
Ascends-weaker P R S (p ∷ ps) weaker all ascends =
    let first = All-head P p ps all in
    let rest = All-tail P p ps all in
    ((λ k d within. weaker p (get_or ps k d) first (rest k d within) (ascends.0 k d within)), Ascends-weaker P R S ps weaker rest ascends.1)

-- what holds of each thing and of each thing with its moment holds of the pairs
All-zip : (P : Thing → Type 0) (R : Thing → Moment → Type 0) (things : List Thing) (moments : List Moment) → All P things → AllZip R things moments → All (λ (p : Timed). P p.0 × R p.0 p.1) (zip things moments)
All-zip P R [] moments all pairs = All-nil (λ (p : Timed). P p.0 × R p.0 p.1)
All-zip P R (t ∷ ts) [] all pairs = absurd pairs
All-zip P R (t ∷ ts) (m ∷ ms) all pairs =
    All-cons (λ (p : Timed). P p.0 × R p.0 p.1) (t, m) (zip ts ms) (All-head P t ts all, pairs.0) (All-zip P R ts ms (All-tail P t ts all) pairs.1)

-- a thing whose bounds are in order, and which no thing crosses
pub record IsUncrossed (things : List Thing) (thing : Thing) : Type 0 where
  pub stands : Contains things thing
  pub moments : thing.lo.0 ≤ℤ thing.hi.0
  pub numbers : thing.least ≤ thing.greatest
  pub uncrossed : Any (λ a. Crosses a thing) things → ⊥

IsFirst-of : (things : List Thing) (p : Timed) → IsUncrossed things p.0 × IsPrinted things p.0 p.1 → IsFirst things p
IsFirst-of things p both = record {
  stands = both.0.stands;
  printed = both.1;
  fit = record {
    not_early = both.1.own;
    not_late = ⊎_elim (λ late. absurd (both.0.uncrossed (crossed_from_late things p.0 p.1 both.1 both.0.moments late))) (λ upto. upto) (lt_or_ge p.0.hi.0 p.1.0);
    numbers = both.0.numbers;
  };
}

-- where no thing is crossed, all stand in one line at the first moments that they can have
pub StandsAt-from_uncrossed : (things : List Thing) (moments : List Moment) → All (IsUncrossed things) things → AllZip (IsPrinted things) things moments → StandsAt things moments
StandsAt-from_uncrossed things moments uncrossed printed =
    let pairs = zip things moments in
    let order = arranged IsNoLater IsNoLater-order pairs in
    let first : All (IsFirst things) order.list =
    All-permutation (IsFirst things) pairs order.list order.same
    (All-weaker (λ p. IsUncrossed things p.0 × IsPrinted things p.0 p.1) (IsFirst things) (IsFirst-of things) pairs (All-zip (IsUncrossed things) (IsPrinted things) things moments uncrossed printed)) in
    record {
      long = AllZip-long (IsPrinted things) things moments printed;
      line = numbered 0 order.list;
      same = subst (IsPermutation pairs) (sym (map-numbered 0 order.list)) order.same;
      allowed = numbered-allowed 0 order.list (λ k d within. (first k d within).fit) (λ k d within. omega arith)
          (Ascends-weaker (IsFirst things) IsNoLater (λ p q. p.0.least ≤ q.0.greatest) order.list (no_lower things) first order.ascends);
      rising = AllPairs-from_ascends NeverFalls (numbered 0 order.list)
          (numbered-rises 0 order.list
          (Ascends-weaker (IsFirst things) IsNoLater (λ p q. p.1.0 ≤ℤ q.1.0) order.list
          (λ p q _ _ before. ⊎_elim (λ lower. omega (arith, ints)) (λ tie. let same = tie.0 in omega (arith, ints)) before) first order.ascends));
    }

-- the same, of things whose bounds are in order
pub StandsAt-from_none : (things : List Thing) (moments : List Moment) → All (λ t. t.lo.0 ≤ℤ t.hi.0) things → All (λ t. t.least ≤ t.greatest) things
    → All (λ b. Any (λ a. Crosses a b) things → ⊥) things → AllZip (IsPrinted things) things moments → StandsAt things moments
StandsAt-from_none things moments ordered numbers none printed =
    StandsAt-from_uncrossed things moments (λ k d within. record { stands = All-contains_itself things k d within; moments = ordered k d within; numbers = numbers k d within; uncrossed = none k d within }) printed

-- where a thing is crossed, there are no such moments
pub not_strict : (things : List Thing) (b : Thing) → Contains things b → Any (λ a. Crosses a b) things → IsStrict things → ⊥
not_strict things b among any strict = uncrossed_from_StandsAt things strict.0 any.1 b strict.1 (any.0, any.2, any.3) among any.4
