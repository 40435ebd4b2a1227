-- Places in their order.
use Rattle.std.proofs.Common.{◌≡◌, ℕ, ◌<◌, ◌≤◌, ◌⊎◌, ⊎_elim, inl, inr, Bool, true, false, ◌&&◌, leb, ltb, eqb, Option, Some, None, sym, ◌∙◌, subst, ap, arith}
use Rattle.std.proofs.lemmas.Bool.{and_parts, cases_Bool, cases_lt, cond-false, cond-true, leb-false, leb-true, lt-ltb, ltb-true, or_cases, or_left, or_right}
use Rattle.std.proofs.lemmas.Bool.Decides.{Decides-eqb}
use Rattle.base_types.specs.PlaceOrder.{ComesFirst, IsUpTo}
use Rattle.base_types.specs.declared.verdict.placed.Places.{Places}
use Rattle.rbac_timeline.specs.Searched.{AreFirstOf, AreLeastOf, lesser_places, is_upto, lesser_number}

pub first_by_test : (a b : ℕ) (rest : Bool) → lesser_number a b rest ≡ true → ComesFirst a b (rest ≡ true)
first_by_test a b rest passed = ⊎_elim
    (λ less. inl (ltb-true a b less))
    (λ same. let both = and_parts (eqb a b) rest same in inr ((Decides-eqb a b).0 both.0, both.1))
    (or_cases (ltb a b) (eqb a b && rest) passed)

pub back_by_test : (a b : ℕ) (rest : Bool) → lesser_number a b rest ≡ false → ComesFirst b a (rest ≡ false)
back_by_test a b rest failed = ⊎_elim
    (λ (less : a < b). absurd (let yes = or_left (ltb a b) (eqb a b && rest) (lt-ltb a b less) in cc))
    (λ (upto : b ≤ a). ⊎_elim
    (λ (less : b < a). inl less)
    (λ (other : a ≤ b).
    let same : a ≡ b = omega arith in
    ⊎_elim
    (λ yes. absurd (let passed = or_right (ltb a b) (eqb a b && rest) (both_from a b rest same yes) in cc))
    (λ no. inr (sym same, no))
    (cases_Bool rest))
    (cases_lt b a))
    (cases_lt a b)
  where
    both_from : (a b : ℕ) (rest : Bool) → a ≡ b → rest ≡ true → (eqb a b && rest) ≡ true
    both_from a b rest same passing = ap (λ r. eqb a b && r) passing ∙ ap (λ e. e && true) ((Decides-eqb a b).1 same)

pub first_weaker : (a b : ℕ) (R S : Type 0) → (R → S) → ComesFirst a b R → ComesFirst a b S
first_weaker a b R S weaker first = ⊎_elim (λ less. inl less) (λ same. inr (same.0, weaker same.1)) first

pub upto_from_test : (a b : Places) → is_upto a b ≡ true → IsUpTo a b
upto_from_test a b passed =
    first_weaker a.roles b.roles _ _ (λ r1. first_weaker a.cluster_roles b.cluster_roles _ _ (λ r2. first_weaker a.bindings b.bindings _ _ (λ r3. leb-true a.cluster_bindings b.cluster_bindings r3)
    (first_by_test a.bindings b.bindings _ r2)) (first_by_test a.cluster_roles b.cluster_roles _ r1)) (first_by_test a.roles b.roles _ passed)

pub below_from_not : (a b : ℕ) → leb a b ≡ false → b ≤ a
below_from_not a b fails = let less : b < a = leb-false a b fails in omega arith

pub upto_from_not : (a b : Places) → is_upto a b ≡ false → IsUpTo b a
upto_from_not a b failed =
    first_weaker b.roles a.roles _ _ (λ r1. first_weaker b.cluster_roles a.cluster_roles _ _ (λ r2. first_weaker b.bindings a.bindings _ _ (λ r3. below_from_not a.cluster_bindings b.cluster_bindings r3)
    (back_by_test a.bindings b.bindings _ r2)) (back_by_test a.cluster_roles b.cluster_roles _ r1)) (back_by_test a.roles b.roles _ failed)

pub first_trans : (a b c : ℕ) (R S T : Type 0) → (R → S → T) → ComesFirst a b R → ComesFirst b c S → ComesFirst a c T
first_trans a b c R S T join first second = ⊎_elim
    (λ (less : a < b). ⊎_elim (λ (more : b < c). inl (omega arith)) (λ same. let is : b ≡ c = same.0 in inl (omega arith)) second)
    (λ same. let is : a ≡ b = same.0 in ⊎_elim (λ (more : b < c). inl (omega arith)) (λ other. inr (same.0 ∙ other.0, join same.1 other.1)) second)
    first

pub at_most : (a b c : ℕ) → a ≤ b → b ≤ c → a ≤ c
at_most a b c ab bc = omega arith

pub upto_trans : (a b c : Places) → IsUpTo a b → IsUpTo b c → IsUpTo a c
upto_trans a b c first second =
    first_trans a.roles b.roles c.roles _ _ _ (λ p1 q1. first_trans a.cluster_roles b.cluster_roles c.cluster_roles _ _ _ (λ p2 q2. first_trans a.bindings b.bindings c.bindings _ _ _
    (λ p3 q3. at_most a.cluster_bindings b.cluster_bindings c.cluster_bindings p3 q3) p2 q2) p1 q1) first second

-- of one of two kinds the first is the first of one
module _ (P Q : Places → Type 0) (low high : ℕ) where
  abbrev pub OneOf : Places → Type 0
  OneOf places = P places ⊎ Q places

  left_first : (a b : Places) → AreLeastOf P low high a → AreLeastOf Q low high b → IsUpTo a b → AreLeastOf OneOf low high a
  left_first a b first second upto = record {
    within = first.within;
    here = inl first.here;
    least = λ other within holds. ⊎_elim (λ p. first.least other within p) (λ q. upto_trans a b other upto (second.least other within q)) holds;
  }

  right_first : (a b : Places) → AreLeastOf P low high a → AreLeastOf Q low high b → IsUpTo b a → AreLeastOf OneOf low high b
  right_first a b first second upto = record {
    within = second.within;
    here = inr second.here;
    least = λ other within holds. ⊎_elim (λ p. upto_trans b a other upto (first.least other within p)) (λ q. second.least other within q) holds;
  }

  pub AreFirstOf-lesser_places : (a b : Option Places) → AreFirstOf P low high a → AreFirstOf Q low high b → AreFirstOf OneOf low high (lesser_places a b)
  AreFirstOf-lesser_places None None no_p no_q = λ places within holds. ⊎_elim (no_p places within) (no_q places within) holds
  AreFirstOf-lesser_places None (Some b) no_p second = record {
    within = second.within;
    here = inr second.here;
    least = λ other within holds. ⊎_elim (λ p. absurd (no_p other within p)) (λ q. second.least other within q) holds;
  }
  AreFirstOf-lesser_places (Some a) None first no_q = record {
    within = first.within;
    here = inl first.here;
    least = λ other within holds. ⊎_elim (λ p. first.least other within p) (λ q. absurd (no_q other within q)) holds;
  }
  AreFirstOf-lesser_places (Some a) (Some b) first second = ⊎_elim
      (λ yes. subst (λ o. AreFirstOf OneOf low high o) (sym (cond-true (is_upto a b) (Some a) (Some b) yes)) (left_first a b first second (upto_from_test a b yes)))
      (λ no. subst (λ o. AreFirstOf OneOf low high o) (sym (cond-false (is_upto a b) (Some a) (Some b) no)) (right_first a b first second (upto_from_not a b no)))
      (cases_Bool (is_upto a b))
