-- The first place of one of two kinds, and of what marks in order say.
use Rattle.std.proofs.Common.{◌≡◌, ℕ, ◌+◌, ◌<◌, ◌≤◌, ◌⊎◌, ⊎_elim, inl, inr, Bool, ltb, List, length, get_or, Option, Some, None, ◌∙◌, subst, ap, max, min, arith}
use Rattle.std.specs.List.{Any}
use Rattle.std.specs.List.Sorted.{IsNonDecreasingBy}
use Rattle.std.proofs.lemmas.Bool.{cases_lt, ltb-false, ltb-true}
use Rattle.std.proofs.lemmas.List.{get_or_default}
use Rattle.base_types.proofs.Quantifiers.{Any-at}
use Rattle.clouds.specs.declared.mark.Mark.{Mark}
use Rattle.clouds.specs.FirstPlace.{HoldsNowhere, IsFirstPlace, IsLeastPlace, lesser_place}
use Rattle.clouds.specs.Marks.{AreMarks, Reaches}
use Rattle.clouds.proofs.Searching.{Parts}

pub IsFirstPlace-same : (P Q : ℕ → Type 0) (low high : ℕ) (place : Option ℕ) → ((n : ℕ) → P n → Q n) → ((n : ℕ) → Q n → P n) → IsFirstPlace P low high place → IsFirstPlace Q low high place
IsFirstPlace-same P Q low high None forth back nowhere = λ place from upto holds. nowhere place from upto (back place holds)
IsFirstPlace-same P Q low high (Some place) forth back first =
    record { from_low = first.from_low; upto_high = first.upto_high; here = forth place first.here; least = λ other from holds. first.least other from (back other holds) }

-- of one of two kinds
abbrev pub Either : (ℕ → Type 0) → (ℕ → Type 0) → ℕ → Type 0
Either P Q n = P n ⊎ Q n

pub IsFirstPlace-either : (P Q : ℕ → Type 0) (low high : ℕ) (a b : Option ℕ) → IsFirstPlace P low high a → IsFirstPlace Q low high b → IsFirstPlace (Either P Q) low high (lesser_place a b)
IsFirstPlace-either P Q low high None None nowhere_p nowhere_q = λ place from upto holds. ⊎_elim (nowhere_p place from upto) (nowhere_q place from upto) holds
IsFirstPlace-either P Q low high None (Some b) nowhere first = record {
  from_low = first.from_low;
  upto_high = first.upto_high;
  here = inr first.here;
  least = λ other from holds. ⊎_elim
      (λ p. ⊎_elim (λ (below : other < b). let upto = first.upto_high in absurd (nowhere other from (omega arith) p)) (λ (le : b ≤ other). le) (cases_lt other b))
      (λ q. first.least other from q)
      holds;
}
IsFirstPlace-either P Q low high (Some a) None first nowhere = record {
  from_low = first.from_low;
  upto_high = first.upto_high;
  here = inl first.here;
  least = λ other from holds. ⊎_elim
      (λ p. first.least other from p)
      (λ q. ⊎_elim (λ (below : other < a). let upto = first.upto_high in absurd (nowhere other from (omega arith) q)) (λ (le : a ≤ other). le) (cases_lt other a))
      holds;
}
IsFirstPlace-either P Q low high (Some a) (Some b) first_p first_q =
    let low_a = first_p.from_low in
    let low_b = first_q.from_low in
    let high_a = first_p.upto_high in
    let high_b = first_q.upto_high in
    record {
      from_low = omega arith;
      upto_high = omega arith;
      here = ⊎_elim
          (λ (less : a < b). let is : a ≡ min a b = omega arith in inl (subst P is first_p.here))
          (λ (more : b ≤ a). let is : b ≡ min a b = omega arith in inr (subst Q is first_q.here))
          (cases_lt a b);
      least = λ other from holds. ⊎_elim
          (λ p. let le : a ≤ other = first_p.least other from p in omega arith)
          (λ q. let le : b ≤ other = first_q.least other from q in omega arith)
          holds;
    }

-- the reaches of marks never fall
pub reaches_rise : (marks : List Mark) → AreMarks marks → IsNonDecreasingBy (λ mark. mark.reach) marks
reaches_rise marks are = λ i j d upto within.
    let far = are.reached i d (omega arith) in
    let before : far.0 ≤ i = far.1 in
    let is : (get_or marks far.0 d).high ≡ (get_or marks i d).reach = far.2 in
    let bound : (get_or marks far.0 d).high ≤ (get_or marks j d).reach = are.bound far.0 j d (omega arith) within in
    omega arith

abbrev pub is_short : ℕ → Mark → Bool
is_short revision mark = ltb mark.reach revision

-- what reaches the revision stands at or behind the first mark whose reach does
not_short : (marks : List Mark) (place revision n : ℕ) → AreMarks marks → Parts (is_short revision) marks n → (any : Any (Reaches place revision) marks) → n ≤ any.0
not_short marks place revision n are parts any = ⊎_elim
    (λ (before : any.0 < n).
    let short : (get_or marks any.0 any.1).reach < revision = ltb-true _ revision (parts.0 any.0 any.1 (omega arith) before) in
    let bound : (get_or marks any.0 any.1).high ≤ (get_or marks any.0 any.1).reach = are.bound any.0 any.0 any.1 (omega arith) any.2 in
    let is : (get_or marks any.0 any.1).high ≡ any.1.high = ap (λ (mark : Mark). mark.high) any.3 in
    let reached : revision ≤ any.1.high = any.4.1 in
    absurd (omega arith))
    (λ (behind : n ≤ any.0). behind)
    (cases_lt any.0 n)

-- and so that mark has begun
begun_by : (marks : List Mark) (place revision n : ℕ) (d : Mark) → AreMarks marks → Parts (is_short revision) marks n → Any (Reaches place revision) marks
    → (get_or marks n d).low < place
begun_by marks place revision n d are parts any =
    let upto : n ≤ any.0 = not_short marks place revision n are parts any in
    let up : (get_or marks n d).low ≤ (get_or marks any.0 d).low = are.rising n any.0 d upto any.2 in
    let is : (get_or marks any.0 d).low ≡ any.1.low = ap (λ (mark : Mark). mark.low) (get_or_default marks any.0 d any.1 any.2 ∙ any.3) in
    let begun : any.1.low < place = any.4.0 in
    omega arith

reached_from : (marks : List Mark) (place revision n : ℕ) (d : Mark) → AreMarks marks → Parts (is_short revision) marks n → n < length marks
    → (get_or marks n d).low < place → Any (Reaches place revision) marks
reached_from marks place revision n d are parts within begun =
    let far = are.reached n d within in
    let upto : far.0 ≤ n = far.1 in
    let is : (get_or marks far.0 d).high ≡ (get_or marks n d).reach = far.2 in
    let reached : revision ≤ (get_or marks n d).reach = ltb-false _ revision (parts.1 n d (omega arith) within) in
    let low : (get_or marks far.0 d).low ≤ (get_or marks n d).low = are.rising far.0 n d upto within in
    Any-at (Reaches place revision) marks far.0 d (omega arith) (omega arith, omega arith)

pub HoldsNowhere-range : (P : ℕ → Type 0) (low high : ℕ) → high < low → HoldsNowhere P low high
HoldsNowhere-range P low high none = λ place from upto holds. absurd (omega arith)

pub HoldsNowhere-short : (marks : List Mark) (revision low high n : ℕ) → AreMarks marks → Parts (is_short revision) marks n → length marks ≤ n
    → HoldsNowhere (λ place. Any (Reaches place revision) marks) low high
HoldsNowhere-short marks revision low high n are parts end = λ place from upto any.
    let among : n ≤ any.0 = not_short marks place revision n are parts any in
    let within : any.0 < length marks = any.2 in
    absurd (omega arith)

pub HoldsNowhere-later : (marks : List Mark) (revision low high n : ℕ) (d : Mark) → AreMarks marks → Parts (is_short revision) marks n
    → high ≤ (get_or marks n d).low → HoldsNowhere (λ place. Any (Reaches place revision) marks) low high
HoldsNowhere-later marks revision low high n d are parts far = λ place from upto any.
    let begun : (get_or marks n d).low < place = begun_by marks place revision n d are parts any in
    absurd (omega arith)

pub IsLeastPlace-begun : (marks : List Mark) (revision low high n place : ℕ) (d : Mark) → AreMarks marks → Parts (is_short revision) marks n → n < length marks
    → low ≤ high → (get_or marks n d).low < high → place ≡ max low ((get_or marks n d).low + 1) → IsLeastPlace (λ p. Any (Reaches p revision) marks) low high place
IsLeastPlace-begun marks revision low high n place d are parts within range begins is = record {
  from_low = omega arith;
  upto_high = omega arith;
  here = reached_from marks place revision n d are parts within (omega arith);
  least = λ other from any.
      let begun : (get_or marks n d).low < other = begun_by marks other revision n d are parts any in omega arith;
}
