-- Where a search among revisions or marks in order ends.
use Rattle.std.proofs.Common.{◌≡◌, ℕ, ◌-◌, ◌<◌, ◌≤◌, ⊎_elim, inl, inr, Bool, true, false, ltb, leb, List, [], ◌∷◌, ◌++◌, length, get_or, max, refl, sym, ◌∙◌, subst, ap, arith}
use Rattle.std.specs.List.{Any, Contains, insert}
use Rattle.std.specs.List.Sorted.{IsNonDecreasing, IsPartitionPoint}
use Rattle.std.proofs.lemmas.Bool.{cases_lt, leb-false, leb-true, ltb-false, ltb-true}
use Rattle.std.proofs.lemmas.List.{get_or_append_left, get_or_default, get_or_push, length-append}
use Rattle.std.proofs.lemmas.List.Elements.{Contains-get_or}
use Rattle.std.proofs.lemmas.List.Sorted.{IsNonDecreasingBy-insert, IsNonDecreasingBy-push}
use Rattle.base_types.proofs.Quantifiers.{Any-at}
use Rattle.clouds.specs.declared.mark.Mark.{Mark}
use Rattle.clouds.specs.FirstPlace.{HoldsNowhere, IsLeastPlace}
use Rattle.clouds.specs.Latest.{IsLastBeforeNext, IsLatest, last_place}
use Rattle.clouds.specs.Marks.{AreMarks, Reaches}

-- those in front of the place pass the test, and the others fail it
abbrev pub Parts : {X : Type 0} → (X → Bool) → List X → ℕ → Type 0
Parts test xs place = IsPartitionPoint (λ x. test x ≡ true) (λ x. test x ≡ false) xs place

abbrev pub is_upto : ℕ → ℕ → Bool
is_upto place revision = leb revision place

pub IsLatest-none : (revisions : List ℕ) (place n : ℕ) → Parts (is_upto place) revisions n → n ≡ 0 → IsLatest revisions place 0
IsLatest-none revisions place n parts none = record {
  among = inl refl;
  bound = omega arith;
  greatest = λ revision among upto.
      let above : place < get_or revisions among.0 revision = leb-false _ place (parts.1 among.0 revision (omega arith) among.1) in
      let is : get_or revisions among.0 revision ≡ revision = among.2 in
      absurd (omega arith);
}

pub IsLatest-found : (revisions : List ℕ) (place n d : ℕ) → IsNonDecreasing revisions → Parts (is_upto place) revisions n → 0 < n → n ≤ length revisions
    → IsLatest revisions place (get_or revisions (n - 1) d)
IsLatest-found revisions place n d order parts after_first within = record {
  among = inr (Contains-get_or revisions (n - 1) d (omega arith));
  bound = leb-true _ place (parts.0 (n - 1) d (omega arith) (omega arith));
  greatest = λ revision among upto. ⊎_elim
      (λ (before : among.0 < n).
      let up : get_or revisions among.0 d ≤ get_or revisions (n - 1) d = order among.0 (n - 1) d (omega arith) (omega arith) in
      let is : get_or revisions among.0 d ≡ revision = get_or_default revisions among.0 d revision among.1 ∙ among.2 in
      omega arith)
      (λ (behind : n ≤ among.0).
      let above : place < get_or revisions among.0 revision = leb-false _ place (parts.1 among.0 revision behind among.1) in
      let is : get_or revisions among.0 revision ≡ revision = among.2 in
      absurd (omega arith))
      (cases_lt among.0 n);
}

-- up to where the next revision isn't reached
pub IsLastBeforeNext-end : (revisions : List ℕ) (place n : ℕ) → Parts (is_upto place) revisions n → length revisions ≤ n → place ≤ last_place
    → IsLastBeforeNext revisions place last_place
IsLastBeforeNext-end revisions place n parts end fits = record {
  from_place = fits;
  before = λ revision among after.
      let within : among.0 < length revisions = among.1 in
      let upto : get_or revisions among.0 revision ≤ place = leb-true _ place (parts.0 among.0 revision (omega arith) (omega arith)) in
      let is : get_or revisions among.0 revision ≡ revision = among.2 in
      absurd (omega arith);
  next = λ other after upto. absurd (omega arith);
}

pub IsLastBeforeNext-found : (revisions : List ℕ) (place n d : ℕ) → IsNonDecreasing revisions → Parts (is_upto place) revisions n → n < length revisions
    → IsLastBeforeNext revisions place (get_or revisions n d - 1)
IsLastBeforeNext-found revisions place n d order parts within =
    let above : place < get_or revisions n d = leb-false _ place (parts.1 n d (omega arith) within) in
    record {
      from_place = omega arith;
      before = λ revision among after. ⊎_elim
          (λ (before : among.0 < n).
          let upto : get_or revisions among.0 revision ≤ place = leb-true _ place (parts.0 among.0 revision (omega arith) before) in
          let is : get_or revisions among.0 revision ≡ revision = among.2 in
          absurd (omega arith))
          (λ (behind : n ≤ among.0).
          let up : get_or revisions n d ≤ get_or revisions among.0 d = order n among.0 d behind among.1 in
          let is : get_or revisions among.0 d ≡ revision = get_or_default revisions among.0 d revision among.1 ∙ among.2 in
          omega arith)
          (cases_lt among.0 n);
      next = λ other after upto. (get_or revisions n d, Contains-get_or revisions n d within, above, omega arith);
    }

-- the least of places from one on
abbrev pub is_below : ℕ → ℕ → Bool
is_below low place = ltb place low

-- none from `low` on stands before the index
least_at : (places : List ℕ) (low n d other : ℕ) → IsNonDecreasing places → Parts (is_below low) places n → low ≤ other → (among : Contains places other)
    → (n ≤ among.0) × (get_or places n d ≤ other)
least_at places low n d other order parts from among = ⊎_elim
    (λ (before : among.0 < n).
    let below : get_or places among.0 other < low = ltb-true _ low (parts.0 among.0 other (omega arith) before) in
    let is : get_or places among.0 other ≡ other = among.2 in
    absurd (omega arith))
    (λ (behind : n ≤ among.0).
    let up : get_or places n d ≤ get_or places among.0 d = order n among.0 d behind among.1 in
    let is : get_or places among.0 d ≡ other = get_or_default places among.0 d other among.1 ∙ among.2 in
    (behind, omega arith))
    (cases_lt among.0 n)

pub HoldsNowhere-end : (places : List ℕ) (low high n : ℕ) → IsNonDecreasing places → Parts (is_below low) places n → length places ≤ n → HoldsNowhere (Contains places) low high
HoldsNowhere-end places low high n order parts end = λ place from upto among.
    let both = least_at places low n 0 place order parts from among in
    let behind : n ≤ among.0 = both.0 in
    let within : among.0 < length places = among.1 in
    absurd (omega arith)

pub HoldsNowhere-far : (places : List ℕ) (low high n d : ℕ) → IsNonDecreasing places → Parts (is_below low) places n → high < get_or places n d → HoldsNowhere (Contains places) low high
HoldsNowhere-far places low high n d order parts far = λ place from upto among.
    let both = least_at places low n d place order parts from among in
    let up : get_or places n d ≤ place = both.1 in
    absurd (omega arith)

pub IsLeastPlace-at : (places : List ℕ) (low high n d : ℕ) → IsNonDecreasing places → Parts (is_below low) places n → n < length places → get_or places n d ≤ high
    → IsLeastPlace (Contains places) low high (get_or places n d)
IsLeastPlace-at places low high n d order parts within upto = record {
  from_low = ltb-false _ low (parts.1 n d (omega arith) within);
  upto_high = upto;
  here = Contains-get_or places n d within;
  least = λ other from among. (least_at places low n d other order parts from among).1;
}

-- a window that reaches the latest revision ends before each later one, and the other way round
pub unseen_from_latest : (revisions : List ℕ) (place latest high : ℕ) → IsLatest revisions place latest → latest ≤ high
    → (revision : ℕ) → Contains revisions revision → high < revision → place < revision
unseen_from_latest revisions place latest high is reached revision among behind = ⊎_elim
    (λ (below : place < revision). below)
    (λ (upto : revision ≤ place). let least : revision ≤ latest = is.greatest revision among upto in absurd (omega arith))
    (cases_lt place revision)

pub latest_from_unseen : (revisions : List ℕ) (place latest high : ℕ) → IsLatest revisions place latest
    → ((revision : ℕ) → Contains revisions revision → high < revision → place < revision) → latest ≤ high
latest_from_unseen revisions place latest high is unseen = ⊎_elim
    (λ (none : latest ≡ 0). omega arith)
    (λ (among : Contains revisions latest). ⊎_elim
    (λ (behind : high < latest). let later : place < latest = unseen latest among behind in let bound = is.bound in absurd (omega arith))
    (λ (reached : latest ≤ high). reached)
    (cases_lt high latest))
    is.among

abbrev pub begins_below : ℕ → Mark → Bool
begins_below place mark = ltb mark.low place

pub reaches_none : (marks : List Mark) (place revision n : ℕ) → Parts (begins_below place) marks n → n ≡ 0 → Any (Reaches place revision) marks → ⊥
reaches_none marks place revision n parts none any =
    let above : place ≤ (get_or marks any.0 any.1).low = ltb-false _ place (parts.1 any.0 any.1 (omega arith) any.2) in
    let is : (get_or marks any.0 any.1).low ≡ any.1.low = ap (λ (mark : Mark). mark.low) any.3 in
    let below : any.1.low < place = any.4.0 in
    absurd (omega arith)

pub reaches_from : (marks : List Mark) (place revision n : ℕ) (d : Mark) → AreMarks marks → Parts (begins_below place) marks n → 0 < n → n ≤ length marks
    → revision ≤ (get_or marks (n - 1) d).reach → Any (Reaches place revision) marks
reaches_from marks place revision n d are parts after_first within reached =
    let far = are.reached (n - 1) d (omega arith) in
    let j : ℕ = far.0 in
    let upto : j ≤ n - 1 = far.1 in
    let is : (get_or marks j d).high ≡ (get_or marks (n - 1) d).reach = far.2 in
    Any-at (Reaches place revision) marks j d (omega arith) (ltb-true _ place (parts.0 j d (omega arith) (omega arith)), omega arith)

pub reaches_upto : (marks : List Mark) (place revision n : ℕ) (d : Mark) → AreMarks marks → Parts (begins_below place) marks n → 0 < n → n ≤ length marks
    → Any (Reaches place revision) marks → revision ≤ (get_or marks (n - 1) d).reach
reaches_upto marks place revision n d are parts after_first within any = ⊎_elim
    (λ (before : any.0 < n).
    let bound : (get_or marks any.0 d).high ≤ (get_or marks (n - 1) d).reach = are.bound any.0 (n - 1) d (omega arith) (omega arith) in
    let is : (get_or marks any.0 d).high ≡ any.1.high = ap (λ (mark : Mark). mark.high) (get_or_default marks any.0 d any.1 any.2 ∙ any.3) in
    let reached : revision ≤ any.1.high = any.4.1 in
    omega arith)
    (λ (behind : n ≤ any.0).
    let above : place ≤ (get_or marks any.0 any.1).low = ltb-false _ place (parts.1 any.0 any.1 behind any.2) in
    let is : (get_or marks any.0 any.1).low ≡ any.1.low = ap (λ (mark : Mark). mark.low) any.3 in
    let below : any.1.low < place = any.4.0 in
    absurd (omega arith))
    (cases_lt any.0 n)

-- a revision put behind all that aren't above it
pub insert_in_order : (revisions : List ℕ) (revision n : ℕ) → IsNonDecreasing revisions → Parts (is_upto revision) revisions n → n ≤ length revisions → IsNonDecreasing (insert revisions n revision)
insert_in_order revisions revision n order parts within =
    IsNonDecreasingBy-insert (λ r. r) revisions n revision order within
    (λ k d before. leb-true _ revision (parts.0 k d (omega arith) before))
    (λ k d behind among. let above : revision < get_or revisions k d = leb-false _ revision (parts.1 k d behind among) in omega arith)

-- one mark more
pub AreMarks-first : (mark : Mark) → mark.reach ≡ mark.high → AreMarks ([] ++ mark ∷ [])
AreMarks-first mark is = record {
  rising = λ i j d upto within. let first : i ≡ j = omega arith in subst (λ n. (get_or (mark ∷ []) i d).low ≤ (get_or (mark ∷ []) n d).low) first (omega arith);
  reached = λ k d within. (k, omega arith, let zeroth : 0 ≡ k = omega arith in subst (λ n. (get_or (mark ∷ []) n d).high ≡ (get_or (mark ∷ []) n d).reach) zeroth (sym is));
  bound = λ j k d upto within.
      let first : 0 ≡ j = omega arith in
      let second : 0 ≡ k = omega arith in
      subst (λ n. (get_or (mark ∷ []) j d).high ≤ (get_or (mark ∷ []) n d).reach) second
      (subst (λ n. (get_or (mark ∷ []) n d).high ≤ (get_or (mark ∷ []) 0 d).reach) first (omega arith));
}

pub AreMarks-more : (marks : List Mark) (mark e : Mark) → AreMarks marks → 0 < length marks → (get_or marks (length marks - 1) e).low ≤ mark.low
    → mark.reach ≡ max mark.high (get_or marks (length marks - 1) e).reach → AreMarks (marks ++ mark ∷ [])
AreMarks-more marks mark e are some later reach = record {
  rising = IsNonDecreasingBy-push (λ mark. mark.low) marks mark are.rising
      (λ d after. subst (λ (last : Mark). last.low ≤ mark.low) (get_or_default marks (length marks - 1) e d (omega arith)) later);
  reached = λ k d within. ⊎_elim
      (λ (old : k < length marks).
      let far = are.reached k d old in
      let upto : far.0 ≤ k = far.1 in
      (far.0, upto, ap (λ (m : Mark). m.high) (get_or_append_left marks (mark ∷ []) d far.0 (omega arith)) ∙ far.2 ∙ sym (ap (λ (m : Mark). m.reach) (get_or_append_left marks (mark ∷ []) d k old))))
      (λ (behind : length marks ≤ k).
      let here : length marks ≡ k = omega (arith, length-append marks (mark ∷ [])) in
      let is : get_or (marks ++ mark ∷ []) k d ≡ mark = get_or_push marks mark d k here in
      let before : get_or marks (length marks - 1) d ≡ get_or marks (length marks - 1) e = get_or_default marks (length marks - 1) d e (omega arith) in
      ⊎_elim
      (λ (less : mark.high < (get_or marks (length marks - 1) e).reach).
      let far = are.reached (length marks - 1) d (omega arith) in
      let upto : far.0 ≤ length marks - 1 = far.1 in
      let high : (get_or marks far.0 d).high ≡ (get_or marks (length marks - 1) d).reach = far.2 in
      let same : (get_or marks (length marks - 1) d).reach ≡ (get_or marks (length marks - 1) e).reach = ap (λ (m : Mark). m.reach) before in
      let of_mark : (get_or (marks ++ mark ∷ []) k d).reach ≡ mark.reach = ap (λ (m : Mark). m.reach) is in
      let of_far : (get_or (marks ++ mark ∷ []) far.0 d).high ≡ (get_or marks far.0 d).high = ap (λ (m : Mark). m.high) (get_or_append_left marks (mark ∷ []) d far.0 (omega arith)) in
      (far.0, omega arith, omega arith))
      (λ (more : (get_or marks (length marks - 1) e).reach ≤ mark.high).
      let of_reach : (get_or (marks ++ mark ∷ []) k d).reach ≡ mark.reach = ap (λ (m : Mark). m.reach) is in
      let of_high : (get_or (marks ++ mark ∷ []) k d).high ≡ mark.high = ap (λ (m : Mark). m.high) is in
      (k, omega arith, omega arith))
      (cases_lt mark.high (get_or marks (length marks - 1) e).reach))
      (cases_lt k (length marks));
  bound = λ j k d upto within. ⊎_elim
      (λ (old : k < length marks).
      let of_high : (get_or (marks ++ mark ∷ []) j d).high ≡ (get_or marks j d).high = ap (λ (m : Mark). m.high) (get_or_append_left marks (mark ∷ []) d j (omega arith)) in
      let of_reach : (get_or (marks ++ mark ∷ []) k d).reach ≡ (get_or marks k d).reach = ap (λ (m : Mark). m.reach) (get_or_append_left marks (mark ∷ []) d k old) in
      let bound : (get_or marks j d).high ≤ (get_or marks k d).reach = are.bound j k d upto old in
      omega arith)
      (λ (behind : length marks ≤ k).
      let here : length marks ≡ k = omega (arith, length-append marks (mark ∷ [])) in
      let of_reach : (get_or (marks ++ mark ∷ []) k d).reach ≡ mark.reach = ap (λ (m : Mark). m.reach) (get_or_push marks mark d k here) in
      ⊎_elim
      (λ (before : j < length marks).
      let of_high : (get_or (marks ++ mark ∷ []) j d).high ≡ (get_or marks j d).high = ap (λ (m : Mark). m.high) (get_or_append_left marks (mark ∷ []) d j before) in
      let bound : (get_or marks j d).high ≤ (get_or marks (length marks - 1) d).reach = are.bound j (length marks - 1) d (omega arith) (omega arith) in
      let same : (get_or marks (length marks - 1) d).reach ≡ (get_or marks (length marks - 1) e).reach = ap (λ (m : Mark). m.reach) (get_or_default marks (length marks - 1) d e (omega arith)) in
      omega arith)
      (λ (at : length marks ≤ j).
      let there : length marks ≡ j = omega arith in
      let of_high : (get_or (marks ++ mark ∷ []) j d).high ≡ mark.high = ap (λ (m : Mark). m.high) (get_or_push marks mark d j there) in
      omega arith)
      (cases_lt j (length marks)))
      (cases_lt k (length marks));
}
