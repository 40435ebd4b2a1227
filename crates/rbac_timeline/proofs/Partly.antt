-- Searches of some bindings, put together.
use Rattle.std.proofs.Common.{◌≡◌, ℕ, ◌<◌, ◌≤◌, ◌⊎◌, ⊎_elim, inl, inr, true, Option, Some, None, List, length, get_or, max, sym, ◌∙◌, subst, ap, arith}
use Rattle.std.specs.List.{Any}
use Rattle.std.proofs.lemmas.Bool.{and_parts, cases_Bool, cases_lt, cond-false, cond-true, false≢true, leb-true}
use Rattle.std.proofs.lemmas.List.{get_or-map, get_or_default}
use Rattle.std.specs.Prelude.{nat_le}
use Rattle.span_index.specs.Meeting.{IsLastOf, Meets, NoneMeets}
use Rattle.rbac_timeline.specs.declared.lasting.Until.{Until}
use Rattle.rbac_timeline.specs.declared.reigns.Reign.{Reign}
use Rattle.rbac_timeline.specs.Found.{FirstFor, IsLeastFor, LastsFor}
use Rattle.rbac_timeline.specs.Lasting.{LastsUntil, farther, is_farther, lasts_throughout}
use Rattle.rbac_timeline.specs.Pairs.{earlier_pair, is_lowest}
use Rattle.rbac_timeline.specs.Reigns.{span_of, spans_of}
use Rattle.rbac_timeline.specs.Searched.{IsFirstPair, IsPairUpTo, lesser_number}
use Rattle.rbac_timeline.proofs.Comparing.{at_most, back_by_test, below_from_not, first_by_test, first_weaker}
use Rattle.rbac_timeline.proofs.Pairing.{pair_trans}
use Rattle.rbac_timeline.proofs.Throughout.{HoldsUntil-map}

module _ (all : ℕ → ℕ → Type 0) (first second high : ℕ) where
  pub LastsFor-weaker : (part other : Type 0) (until : Option Until) → (other → part) → LastsFor all part first second high until → LastsFor all other first second high until
  LastsFor-weaker part other None back none = λ holds. none (back holds)
  LastsFor-weaker part other (Some until) back lasts = lasts

  -- of two parts the one that lasts farther
  pub LastsFor-farther : (p q part : Type 0) (a b : Option Until) → (part → p ⊎ q) → LastsFor all p first second high a → LastsFor all q first second high b → LastsFor all part first second high (farther a b)
  LastsFor-farther p q part None None split no_p no_q = λ holds. ⊎_elim no_p no_q (split holds)
  LastsFor-farther p q part None (Some b) split no_p lasts = lasts
  LastsFor-farther p q part (Some a) None split lasts no_q = lasts
  LastsFor-farther p q part (Some a) (Some b) split by_a by_b = ⊎_elim
      (λ passed. subst (λ o. LastsFor all part first second high o) (sym (cond-true (is_farther b a) (Some b) (Some a) passed)) by_b)
      (λ failed. subst (λ o. LastsFor all part first second high o) (sym (cond-false (is_farther b a) (Some b) (Some a) failed)) by_a)
      (cases_Bool (is_farther b a))

  pub LastsFor-stop : (part other : Type 0) (until : Option Until) → lasts_throughout high until ≡ true → LastsFor all part first second high until → LastsFor all other first second high until
  LastsFor-stop part other None throughout none = absurd (false≢true throughout)
  LastsFor-stop part other (Some until) throughout lasts = lasts

  pub LastsFor-one : (P : ℕ → ℕ → Type 0) (until : Option Until) → ((a b : ℕ) → P a b → all a b) → LastsUntil P first second high until → LastsFor all (P first second) first second high until
  LastsFor-one P None forth none = none
  LastsFor-one P (Some until) forth lasts = HoldsUntil-map P all first second high until forth lasts

  pub LastsUntil-from : (part : Type 0) (until : Option Until) → (all first second → part) → LastsFor all part first second high until → LastsUntil all first second high until
  LastsUntil-from part None back none = λ holds. none (back holds)
  LastsUntil-from part (Some until) back lasts = lasts

module _ (all : ℕ → ℕ → Type 0) (low high : ℕ) where
  pub FirstFor-weaker : (part other : ℕ → ℕ → Type 0) (pair : Option (ℕ × ℕ)) → ((a b : ℕ) → b ≤ high → other a b → part a b) → FirstFor all part low high pair → FirstFor all other low high pair
  FirstFor-weaker part other None back none = λ a b a_from a_upto b_from b_upto holds. none a b a_from a_upto b_from b_upto (back a b b_upto holds)
  FirstFor-weaker part other (Some pair) back found = record {
    first_from = found.first_from;
    first_upto = found.first_upto;
    second_from = found.second_from;
    second_upto = found.second_upto;
    here = found.here;
    least = λ a b a_from a_upto b_from b_upto holds. found.least a b a_from a_upto b_from b_upto (back a b b_upto holds);
  }

  -- each pair of the other part has one of the part with the same first place at or before it
  pub FirstFor-cover : (part other : ℕ → ℕ → Type 0) (pair : Option (ℕ × ℕ)) → ((a b : ℕ) → low ≤ b → b ≤ high → other a b → (c : ℕ) × (low ≤ c) × (c ≤ b) × part a c)
      → FirstFor all part low high pair → FirstFor all other low high pair
  FirstFor-cover part other None cover none = λ a b a_from a_upto b_from b_upto holds.
      let c = cover a b b_from b_upto holds in let before = c.2 in none a c.0 a_from a_upto c.1 (omega arith) c.3
  FirstFor-cover part other (Some pair) cover found = record {
    first_from = found.first_from;
    first_upto = found.first_upto;
    second_from = found.second_from;
    second_upto = found.second_upto;
    here = found.here;
    least = λ a b a_from a_upto b_from b_upto holds.
        let c = cover a b b_from b_upto holds in
        let before : c.0 ≤ b = c.2 in
        first_weaker pair.0 a _ _ (λ (upto : pair.1 ≤ c.0). at_most pair.1 c.0 b upto before) (found.least a c.0 a_from a_upto c.1 (omega arith) c.3);
  }

  pub FirstFor-one : (P : ℕ → ℕ → Type 0) (pair : Option (ℕ × ℕ)) → ((a b : ℕ) → P a b → all a b) → IsFirstPair P low high pair → FirstFor all P low high pair
  FirstFor-one P None forth none = none
  FirstFor-one P (Some pair) forth found = record {
    first_from = found.first_from;
    first_upto = found.first_upto;
    second_from = found.second_from;
    second_upto = found.second_upto;
    here = forth pair.0 pair.1 found.here;
    least = found.least;
  }

  pub IsFirstPair-from : (part : ℕ → ℕ → Type 0) (pair : Option (ℕ × ℕ)) → ((a b : ℕ) → b ≤ high → all a b → part a b) → FirstFor all part low high pair → IsFirstPair all low high pair
  IsFirstPair-from part None back none = λ a b a_from a_upto b_from b_upto holds. none a b a_from a_upto b_from b_upto (back a b b_upto holds)
  IsFirstPair-from part (Some pair) back found = record {
    first_from = found.first_from;
    first_upto = found.first_upto;
    second_from = found.second_from;
    second_upto = found.second_upto;
    here = found.here;
    least = λ a b a_from a_upto b_from b_upto holds. found.least a b a_from a_upto b_from b_upto (back a b b_upto holds);
  }

  pub FirstFor-stop : (part other : ℕ → ℕ → Type 0) (pair : Option (ℕ × ℕ)) → is_lowest low pair ≡ true → FirstFor all part low high pair → FirstFor all other low high pair
  FirstFor-stop part other None lowest none = absurd (false≢true lowest)
  FirstFor-stop part other (Some pair) lowest found =
      let test = and_parts (nat_le pair.0 low) (nat_le pair.1 low) lowest in
      let at_first : pair.0 ≤ low = leb-true pair.0 low test.0 in
      let at_second : pair.1 ≤ low = leb-true pair.1 low test.1 in
      record {
        first_from = found.first_from;
        first_upto = found.first_upto;
        second_from = found.second_from;
        second_upto = found.second_upto;
        here = found.here;
        least = λ a b a_from a_upto b_from b_upto holds. ⊎_elim (λ (less : pair.0 < a). inl less) (λ (more : a ≤ pair.0). inr (omega arith, omega arith)) (cases_lt pair.0 a);
      }

  -- the earlier one of two, which is not behind the other one's others
  upto_both : (p q part : ℕ → ℕ → Type 0) (a b : ℕ × ℕ) → ((m n : ℕ) → part m n → p m n ⊎ q m n) → IsLeastFor all p low high a.0 a.1 → IsLeastFor all q low high b.0 b.1 → IsPairUpTo a.0 a.1 b.0 b.1
      → IsLeastFor all part low high a.0 a.1
  upto_both p q part a b split by_a by_b upto = record {
    first_from = by_a.first_from;
    first_upto = by_a.first_upto;
    second_from = by_a.second_from;
    second_upto = by_a.second_upto;
    here = by_a.here;
    least = λ m n m_from m_upto n_from n_upto holds. ⊎_elim
        (λ of_p. by_a.least m n m_from m_upto n_from n_upto of_p)
        (λ of_q. pair_trans a.0 a.1 b.0 b.1 m n upto (by_b.least m n m_from m_upto n_from n_upto of_q))
        (split m n holds);
  }

  -- of two parts the earlier pair
  pub FirstFor-earlier : (p q part : ℕ → ℕ → Type 0) (a b : Option (ℕ × ℕ)) → ((m n : ℕ) → part m n → p m n ⊎ q m n) → FirstFor all p low high a → FirstFor all q low high b
      → FirstFor all part low high (earlier_pair a b)
  FirstFor-earlier p q part None None split no_p no_q = λ m n m_from m_upto n_from n_upto holds. ⊎_elim (no_p m n m_from m_upto n_from n_upto) (no_q m n m_from m_upto n_from n_upto) (split m n holds)
  FirstFor-earlier p q part None (Some b) split no_p found = record {
    first_from = found.first_from;
    first_upto = found.first_upto;
    second_from = found.second_from;
    second_upto = found.second_upto;
    here = found.here;
    least = λ m n m_from m_upto n_from n_upto holds. ⊎_elim (λ of_p. absurd (no_p m n m_from m_upto n_from n_upto of_p)) (λ of_q. found.least m n m_from m_upto n_from n_upto of_q) (split m n holds);
  }
  FirstFor-earlier p q part (Some a) None split found no_q = record {
    first_from = found.first_from;
    first_upto = found.first_upto;
    second_from = found.second_from;
    second_upto = found.second_upto;
    here = found.here;
    least = λ m n m_from m_upto n_from n_upto holds. ⊎_elim (λ of_p. found.least m n m_from m_upto n_from n_upto of_p) (λ of_q. absurd (no_q m n m_from m_upto n_from n_upto of_q)) (split m n holds);
  }
  FirstFor-earlier p q part (Some a) (Some b) split by_a by_b = ⊎_elim
      (λ passed. subst (λ o. FirstFor all part low high o) (sym (cond-true (lesser_number a.0 b.0 (nat_le a.1 b.1)) (Some a) (Some b) passed))
      (upto_both p q part a b split by_a by_b (first_weaker a.0 b.0 _ _ (λ rest. leb-true a.1 b.1 rest) (first_by_test a.0 b.0 _ passed))))
      (λ failed. subst (λ o. FirstFor all part low high o) (sym (cond-false (lesser_number a.0 b.0 (nat_le a.1 b.1)) (Some a) (Some b) failed))
      (upto_both q p part b a (λ m n holds. ⊎_elim (λ of_p. inr of_p) (λ of_q. inl of_q) (split m n holds)) by_b by_a
      (first_weaker b.0 a.0 _ _ (λ rest. below_from_not a.1 b.1 rest) (back_by_test a.0 b.0 _ failed))))
      (cases_Bool (lesser_number a.0 b.0 (nat_le a.1 b.1)))

-- those of some reigns that were looked at, from the last on
module _ (low high : ℕ) (reigns : List Reign) where
  -- of those from an index on that meet the range one is so
  pub record MetFrom (E : Reign → Type 0) (i : ℕ) : Type 0 where
    pub index : ℕ
    pub reign : Reign
    pub from : i ≤ index
    pub within : index < length reigns
    pub is : get_or reigns index reign ≡ reign
    pub meets : Meets low high (span_of reign)
    pub so : E reign

  pub MetFrom-none : (E : Reign → Type 0) → MetFrom E (length reigns) → ⊥
  MetFrom-none E met = let from = met.from in let within = met.within in omega arith

  span_at : (k : ℕ) (reign : Reign) → k < length reigns → get_or reigns k reign ≡ reign → get_or (spans_of reigns) k (span_of reign) ≡ span_of reign
  span_at k reign within is = get_or-map span_of reigns k reign (span_of reign) within ∙ ap span_of is

  -- those from the next one that meets the range on
  pub MetFrom-found : (E : Reign → Type 0) (rest index : ℕ) (reign : Reign) → IsLastOf (spans_of reigns) rest low high index → reign ≡ get_or reigns index reign → MetFrom E index → MetFrom E rest ⊎ E reign
  MetFrom-found E rest index reign last at met =
      let from : index ≤ met.index = met.from in
      ⊎_elim
      (λ (behind : index < met.index). ⊎_elim
      (λ (before : met.index < rest).
      absurd (last.behind met.index (span_of met.reign) behind before (subst (λ s. Meets low high s) (sym (span_at met.index met.reign met.within met.is)) met.meets)))
      (λ (beyond : rest ≤ met.index). inl (record { index = met.index; reign = met.reign; from = beyond; within = met.within; is = met.is; meets = met.meets; so = met.so }))
      (cases_lt met.index rest))
      (λ (upto : met.index ≤ index).
      let same : met.index ≡ index = omega arith in
      let one : get_or reigns met.index reign ≡ reign = ap (λ k. get_or reigns k reign) same ∙ sym at in
      inr (subst E (sym met.is ∙ default met.index met.reign reign met.within ∙ one) met.so))
      (cases_lt index met.index)
    where
      default : (k : ℕ) (a b : Reign) → k < length reigns → get_or reigns k a ≡ get_or reigns k b
      default k a b within = get_or_default reigns k a b within

  pub MetFrom-end : (E : Reign → Type 0) (rest : ℕ) → NoneMeets (spans_of reigns) 0 rest low high → Any (λ reign. Meets low high (span_of reign) × E reign) reigns → MetFrom E rest
  MetFrom-end E rest none any = ⊎_elim
      (λ (before : any.0 < rest). absurd (none any.0 (span_of any.1) (omega arith) before (subst (λ s. Meets low high s) (sym (span_at any.0 any.1 any.2 any.3)) any.4.0)))
      (λ (from : rest ≤ any.0). record { index = any.0; reign = any.1; from = from; within = any.2; is = any.3; meets = any.4.0; so = any.4.1 })
      (cases_lt any.0 rest)

  pub LastsFor-met : (all : ℕ → ℕ → Type 0) (first second top : ℕ) (E : Reign → Type 0) (rest index : ℕ) (reign : Reign) (farthest found : Option Until) → IsLastOf (spans_of reigns) rest low high index → reign ≡ get_or reigns index reign
      → LastsFor all (MetFrom E rest) first second top farthest → LastsFor all (E reign) first second top found → LastsFor all (MetFrom E index) first second top (farther farthest found)
  LastsFor-met all first second top E rest index reign farthest found last at so_far here =
      LastsFor-farther all first second top (MetFrom E rest) (E reign) (MetFrom E index) farthest found (λ met. MetFrom-found E rest index reign last at met) so_far here

  pub FirstFor-met : (all : ℕ → ℕ → Type 0) (bottom top : ℕ) (E : ℕ → ℕ → Reign → Type 0) (rest index : ℕ) (reign : Reign) (best found : Option (ℕ × ℕ)) → IsLastOf (spans_of reigns) rest low high index → reign ≡ get_or reigns index reign
      → FirstFor all (λ a b. MetFrom (E a b) rest) bottom top best → FirstFor all (λ a b. E a b reign) bottom top found → FirstFor all (λ a b. MetFrom (E a b) index) bottom top (earlier_pair best found)
  FirstFor-met all bottom top E rest index reign best found last at so_far here =
      FirstFor-earlier all bottom top (λ a b. MetFrom (E a b) rest) (λ a b. E a b reign) (λ a b. MetFrom (E a b) index) best found (λ a b met. MetFrom-found (E a b) rest index reign last at met) so_far here

  met_at : (rest index : ℕ) (reign : Reign) → index < length reigns → IsLastOf (spans_of reigns) rest low high index → reign ≡ get_or reigns index reign → Meets low high (span_of reign)
  met_at rest index reign within last at = subst (λ s. Meets low high s) (span_at index reign within (sym at)) (last.here (span_of reign))

  -- the reign begins in the range, or has its first place
  pub start_within : (rest index : ℕ) (reign : Reign) (start : ℕ) → low ≤ high → rest ≤ length reigns → IsLastOf (spans_of reigns) rest low high index → reign ≡ get_or reigns index reign → start ≡ max low reign.first → start ≤ high
  start_within rest index reign start range bound last at is =
      let before : index < rest = last.within in
      let first : reign.first ≤ high = (met_at rest index reign (omega arith) last at).0 in
      omega arith
