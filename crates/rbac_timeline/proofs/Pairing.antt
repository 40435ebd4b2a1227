-- The first of places, and of pairs of places, that are found in several ways.
use Rattle.std.proofs.Common.{◌≡◌, ℕ, ◌+◌, ◌<◌, ◌≤◌, ◌⊎◌, ⊎_elim, inl, inr, Bool, true, leb, Option, Some, None, List, [], ◌∷◌, length, get_or, take, refl, sym, subst, arith}
use Rattle.std.specs.List.{Any}
use Rattle.std.proofs.lemmas.Bool.{and_parts, cases_Bool, cases_lt, cond-false, cond-true, false≢true, leb-true}
use Rattle.std.proofs.lemmas.List.{length-take, take_all}
use Rattle.std.specs.Option.{IfNone, IfSome}
use Rattle.base_types.proofs.Quantifiers.{Any-head, Any-untake}
use Rattle.clouds.proofs.FirstPlaces.{IsFirstPlace-either, IsFirstPlace-same}
use Rattle.clouds.proofs.Quantified.{Any-append_cases, Any-append_left, Any-append_right, Any-cons_cases}
use Rattle.clouds.specs.FirstPlace.{HoldsNowhere, IsFirstPlace, IsLeastPlace, lesser_place}
use Rattle.rbac_timeline.specs.Pairs.{earlier_pair, is_lowest, pair_with}
use Rattle.rbac_timeline.specs.Searched.{IsFirstPair, IsLeastPair, IsPairUpTo, lesser_number}
use Rattle.rbac_timeline.proofs.Comparing.{at_most, back_by_test, below_from_not, first_by_test, first_trans, first_weaker}
use Rattle.rbac_timeline.proofs.Gathering.{front_more}

-- an item more of the front of a list
module _ {X : Type 0} (F : X → Type 0) (xs : List X) (i : ℕ) (x : X) (within : i < length xs) (is : x ≡ get_or xs i x) where
  pub any_more : Any F (take i xs) ⊎ F x → Any F (take (i + 1) xs)
  any_more either = subst (λ l. Any F l) (sym (front_more xs i x within is)) (⊎_elim
      (λ before. Any-append_left F (take i xs) (x ∷ []) before)
      (λ here. Any-append_right F (take i xs) (x ∷ []) (Any-head F x [] here))
      either)

  pub more_any : Any F (take (i + 1) xs) → Any F (take i xs) ⊎ F x
  more_any any = ⊎_elim
      (λ before. inl before)
      (λ last. inr (⊎_elim (λ here. here) (λ none. let among = none.2 in absurd (omega arith)) (Any-cons_cases F x [] last)))
      (Any-append_cases F (take i xs) (x ∷ []) (subst (λ l. Any F l) (front_more xs i x within is) any))

-- each place of one kind has one of the other kind at or before it
pub IsFirstPlace-cover : (P Q : ℕ → Type 0) (low high : ℕ) (place : Option ℕ) → ((n : ℕ) → P n → Q n) → ((n : ℕ) → low ≤ n → n ≤ high → Q n → (c : ℕ) × (low ≤ c) × (c ≤ n) × P c)
    → IsFirstPlace P low high place → IsFirstPlace Q low high place
IsFirstPlace-cover P Q low high None forth cover nowhere = λ n from upto holds. let c = cover n from upto holds in let before = c.2 in nowhere c.0 c.1 (omega arith) c.3
IsFirstPlace-cover P Q low high (Some place) forth cover first = record {
  from_low = first.from_low;
  upto_high = first.upto_high;
  here = forth place first.here;
  least = λ other from holds. ⊎_elim
      (λ (beyond : high < other). let bound = first.upto_high in omega arith)
      (λ (within : other ≤ high). let c = cover other from within holds in let before = c.2 in let least : place ≤ c.0 = first.least c.0 c.1 c.3 in omega arith)
      (cases_lt high other);
}

-- one that holds at one place alone
pub IsFirstPlace-at : (P : ℕ → Type 0) (low high place : ℕ) → low ≤ place → place ≤ high → P place → IsFirstPlace (λ n. (n ≡ place) × P n) low high (Some place)
IsFirstPlace-at P low high place from upto holds = record { from_low = from; upto_high = upto; here = (refl, holds); least = λ other other_from is. let same = is.0 in omega arith }

pub IsFirstPlace-not_at : (P : ℕ → Type 0) (low high place : ℕ) → (P place → ⊥) → IsFirstPlace (λ n. (n ≡ place) × P n) low high None
IsFirstPlace-not_at P low high place fails = λ n from upto is. fails (subst P is.0 is.1)

pub IsFirstPlace-low : (P : ℕ → Type 0) (low high : ℕ) → low ≤ high → P low → IsFirstPlace P low high (Some low)
IsFirstPlace-low P low high range holds = record { from_low = omega arith; upto_high = range; here = holds; least = λ other from other_holds. from }

-- one item more among those that give places
pub IsFirstPlace-more : {X : Type 0} (S : ℕ → Type 0) (F : X → ℕ → Type 0) (low high : ℕ) (xs : List X) (i : ℕ) (x : X) (best found : Option ℕ) → i < length xs → x ≡ get_or xs i x
    → IsFirstPlace (λ n. S n ⊎ Any (λ y. F y n) (take i xs)) low high best → IsFirstPlace (F x) low high found
    → IsFirstPlace (λ n. S n ⊎ Any (λ y. F y n) (take (i + 1) xs)) low high (lesser_place best found)
IsFirstPlace-more S F low high xs i x best found within is first new =
    IsFirstPlace-same _ _ low high (lesser_place best found)
    (λ n either. ⊎_elim
    (λ before. ⊎_elim (λ start. inl start) (λ any. inr (any_more (λ y. F y n) xs i x within is (inl any))) before)
    (λ here. inr (any_more (λ y. F y n) xs i x within is (inr here)))
    either)
    (λ n either. ⊎_elim
    (λ start. inl (inl start))
    (λ any. ⊎_elim (λ before. inl (inr before)) (λ here. inr here) (more_any (λ y. F y n) xs i x within is any))
    either)
    (IsFirstPlace-either (λ n. S n ⊎ Any (λ y. F y n) (take i xs)) (F x) low high best found first new)

-- pairs in their order
pub pair_trans : (a0 a1 b0 b1 c0 c1 : ℕ) → IsPairUpTo a0 a1 b0 b1 → IsPairUpTo b0 b1 c0 c1 → IsPairUpTo a0 a1 c0 c1
pair_trans a0 a1 b0 b1 c0 c1 ab bc = first_trans a0 b0 c0 _ _ _ (λ p q. at_most a1 b1 c1 p q) ab bc

-- of one of two kinds the first pair is the first of one
module _ (P Q : ℕ → ℕ → Type 0) (low high : ℕ) where
  abbrev pub EitherPair : ℕ → ℕ → Type 0
  EitherPair a b = P a b ⊎ Q a b

  left_pair : (a b : ℕ × ℕ) → IsLeastPair P low high a.0 a.1 → IsLeastPair Q low high b.0 b.1 → IsPairUpTo a.0 a.1 b.0 b.1 → IsLeastPair EitherPair low high a.0 a.1
  left_pair a b first second upto = record {
    first_from = first.first_from;
    first_upto = first.first_upto;
    second_from = first.second_from;
    second_upto = first.second_upto;
    here = inl first.here;
    least = λ c d c_from c_upto d_from d_upto holds. ⊎_elim
        (λ p. first.least c d c_from c_upto d_from d_upto p)
        (λ q. pair_trans a.0 a.1 b.0 b.1 c d upto (second.least c d c_from c_upto d_from d_upto q))
        holds;
  }

  right_pair : (a b : ℕ × ℕ) → IsLeastPair P low high a.0 a.1 → IsLeastPair Q low high b.0 b.1 → IsPairUpTo b.0 b.1 a.0 a.1 → IsLeastPair EitherPair low high b.0 b.1
  right_pair a b first second upto = record {
    first_from = second.first_from;
    first_upto = second.first_upto;
    second_from = second.second_from;
    second_upto = second.second_upto;
    here = inr second.here;
    least = λ c d c_from c_upto d_from d_upto holds. ⊎_elim
        (λ p. pair_trans b.0 b.1 a.0 a.1 c d upto (first.least c d c_from c_upto d_from d_upto p))
        (λ q. second.least c d c_from c_upto d_from d_upto q)
        holds;
  }

  pub IsFirstPair-either : (a b : Option (ℕ × ℕ)) → IsFirstPair P low high a → IsFirstPair Q low high b → IsFirstPair EitherPair low high (earlier_pair a b)
  IsFirstPair-either None None no_p no_q = λ c d c_from c_upto d_from d_upto holds. ⊎_elim (no_p c d c_from c_upto d_from d_upto) (no_q c d c_from c_upto d_from d_upto) holds
  IsFirstPair-either None (Some b) no_p second = record {
    first_from = second.first_from;
    first_upto = second.first_upto;
    second_from = second.second_from;
    second_upto = second.second_upto;
    here = inr second.here;
    least = λ c d c_from c_upto d_from d_upto holds. ⊎_elim (λ p. absurd (no_p c d c_from c_upto d_from d_upto p)) (λ q. second.least c d c_from c_upto d_from d_upto q) holds;
  }
  IsFirstPair-either (Some a) None first no_q = record {
    first_from = first.first_from;
    first_upto = first.first_upto;
    second_from = first.second_from;
    second_upto = first.second_upto;
    here = inl first.here;
    least = λ c d c_from c_upto d_from d_upto holds. ⊎_elim (λ p. first.least c d c_from c_upto d_from d_upto p) (λ q. absurd (no_q c d c_from c_upto d_from d_upto q)) holds;
  }
  IsFirstPair-either (Some a) (Some b) first second =
      let test : Bool = lesser_number a.0 b.0 (leb a.1 b.1) in
      ⊎_elim
      (λ passed. subst (λ o. IsFirstPair EitherPair low high o) (sym (cond-true (lesser_number a.0 b.0 (leb a.1 b.1)) (Some a) (Some b) passed))
      (left_pair a b first second (first_weaker a.0 b.0 _ _ (λ rest. leb-true a.1 b.1 rest) (first_by_test a.0 b.0 _ passed))))
      (λ failed. subst (λ o. IsFirstPair EitherPair low high o) (sym (cond-false (lesser_number a.0 b.0 (leb a.1 b.1)) (Some a) (Some b) failed))
      (right_pair a b first second (first_weaker b.0 a.0 _ _ (λ rest. below_from_not a.1 b.1 rest) (back_by_test a.0 b.0 _ failed))))
      (cases_Bool (lesser_number a.0 b.0 (leb a.1 b.1)))

-- each pair of one kind has one of the other kind with the same first place at or before it
pub IsFirstPair-cover : (P Q : ℕ → ℕ → Type 0) (low high : ℕ) (pair : Option (ℕ × ℕ)) → ((a b : ℕ) → P a b → Q a b)
    → ((a b : ℕ) → low ≤ b → b ≤ high → Q a b → (c : ℕ) × (low ≤ c) × (c ≤ b) × P a c) → IsFirstPair P low high pair → IsFirstPair Q low high pair
IsFirstPair-cover P Q low high None forth cover none = λ a b a_from a_upto b_from b_upto holds.
    let c = cover a b b_from b_upto holds in let before = c.2 in none a c.0 a_from a_upto c.1 (omega arith) c.3
IsFirstPair-cover P Q low high (Some pair) forth cover first = record {
  first_from = first.first_from;
  first_upto = first.first_upto;
  second_from = first.second_from;
  second_upto = first.second_upto;
  here = forth pair.0 pair.1 first.here;
  least = λ a b a_from a_upto b_from b_upto holds.
      let c = cover a b b_from b_upto holds in
      let before : c.0 ≤ b = c.2 in
      first_weaker pair.0 a _ _ (λ (upto : pair.1 ≤ c.0). at_most pair.1 c.0 b upto before) (first.least a c.0 a_from a_upto c.1 (omega arith) c.3);
}

pub IsFirstPair-same : (P Q : ℕ → ℕ → Type 0) (low high : ℕ) (pair : Option (ℕ × ℕ)) → ((a b : ℕ) → P a b → Q a b) → ((a b : ℕ) → b ≤ high → Q a b → P a b) → IsFirstPair P low high pair → IsFirstPair Q low high pair
IsFirstPair-same P Q low high pair forth back first = IsFirstPair-cover P Q low high pair forth (λ a b from upto holds. (b, from, omega arith, back a b upto holds)) first

-- one that holds at one second place alone
pub IsFirstPair-at : (P : ℕ → ℕ → Type 0) (low high place : ℕ) (first : Option ℕ) → low ≤ place → place ≤ high → IsFirstPlace (λ a. P a place) low high first
    → (found : Option (ℕ × ℕ)) → found ≡ pair_with place first → IsFirstPair (λ a b. (b ≡ place) × P a b) low high found
IsFirstPair-at P low high place first from upto is found same = subst (λ o. IsFirstPair (λ a b. (b ≡ place) × P a b) low high o) (sym same) (go first is)
  where
    go : (first : Option ℕ) → IsFirstPlace (λ a. P a place) low high first → IsFirstPair (λ a b. (b ≡ place) × P a b) low high (pair_with place first)
    go None nowhere = λ a b a_from a_upto b_from b_upto holds. nowhere a a_from a_upto (subst (λ n. P a n) holds.0 holds.1)
    go (Some a0) least = record {
      first_from = least.from_low;
      first_upto = least.upto_high;
      second_from = from;
      second_upto = upto;
      here = (refl, least.here);
      least = λ a b a_from a_upto b_from b_upto holds.
          let same : b ≡ place = holds.0 in
          let before : a0 ≤ a = least.least a a_from (subst (λ n. P a n) holds.0 holds.1) in
          ⊎_elim (λ (less : a0 < a). inl less) (λ (more : a ≤ a0). inr (omega arith, omega arith)) (cases_lt a0 a);
    }

-- one item more among those that give pairs
pub IsFirstPair-more : {X : Type 0} (F : X → ℕ → ℕ → Type 0) (low high : ℕ) (xs : List X) (i : ℕ) (x : X) (best found : Option (ℕ × ℕ)) → i < length xs → x ≡ get_or xs i x
    → IsFirstPair (λ a b. Any (λ y. F y a b) (take i xs)) low high best → IsFirstPair (F x) low high found
    → IsFirstPair (λ a b. Any (λ y. F y a b) (take (i + 1) xs)) low high (earlier_pair best found)
IsFirstPair-more F low high xs i x best found within is first new =
    IsFirstPair-same _ _ low high (earlier_pair best found)
    (λ a b either. any_more (λ y. F y a b) xs i x within is either)
    (λ a b upto any. more_any (λ y. F y a b) xs i x within is any)
    (IsFirstPair-either (λ a b. Any (λ y. F y a b) (take i xs)) (F x) low high best found first new)

-- the same behind others
pub IsFirstPair-later : {X : Type 0} (S : ℕ → ℕ → Type 0) (F : X → ℕ → ℕ → Type 0) (low high : ℕ) (xs : List X) (i : ℕ) (x : X) (best found : Option (ℕ × ℕ)) → i < length xs → x ≡ get_or xs i x
    → IsFirstPair (λ a b. S a b ⊎ Any (λ y. F y a b) (take i xs)) low high best → IsFirstPair (F x) low high found
    → IsFirstPair (λ a b. S a b ⊎ Any (λ y. F y a b) (take (i + 1) xs)) low high (earlier_pair best found)
IsFirstPair-later S F low high xs i x best found within is first new =
    IsFirstPair-same _ _ low high (earlier_pair best found)
    (λ a b either. ⊎_elim
    (λ before. ⊎_elim (λ start. inl start) (λ any. inr (any_more (λ y. F y a b) xs i x within is (inl any))) before)
    (λ here. inr (any_more (λ y. F y a b) xs i x within is (inr here)))
    either)
    (λ a b upto either. ⊎_elim
    (λ start. inl (inl start))
    (λ any. ⊎_elim (λ before. inl (inr before)) (λ here. inr here) (more_any (λ y. F y a b) xs i x within is any))
    either)
    (IsFirstPair-either (λ a b. S a b ⊎ Any (λ y. F y a b) (take i xs)) (F x) low high best found first new)

-- before the first item
pub IsFirstPlace-start : {X : Type 0} (S : ℕ → Type 0) (F : X → ℕ → Type 0) (low high : ℕ) (xs : List X) (best : Option ℕ) → IsFirstPlace S low high best
    → IsFirstPlace (λ n. S n ⊎ Any (λ y. F y n) (take 0 xs)) low high best
IsFirstPlace-start S F low high xs best first =
    IsFirstPlace-same S _ low high best (λ n start. inl start)
    (λ n either. ⊎_elim (λ start. start) (λ any. let within = any.2 in absurd (omega (arith, length-take 0 xs))) either) first

pub IsFirstPair-start : {X : Type 0} (S : ℕ → ℕ → Type 0) (F : X → ℕ → ℕ → Type 0) (low high : ℕ) (xs : List X) (best : Option (ℕ × ℕ)) → IsFirstPair S low high best
    → IsFirstPair (λ a b. S a b ⊎ Any (λ y. F y a b) (take 0 xs)) low high best
IsFirstPair-start S F low high xs best first =
    IsFirstPair-same S _ low high best (λ a b start. inl start)
    (λ a b upto either. ⊎_elim (λ start. start) (λ any. let within = any.2 in absurd (omega (arith, length-take 0 xs))) either) first

pub IsFirstPair-nothing : {X : Type 0} (F : X → ℕ → ℕ → Type 0) (low high : ℕ) (xs : List X) → IsFirstPair (λ a b. Any (λ y. F y a b) (take 0 xs)) low high None
IsFirstPair-nothing F low high xs = λ a b a_from a_upto b_from b_upto any. let within = any.2 in omega (arith, length-take 0 xs)

pub IsFirstPair-all : {X : Type 0} (F : X → ℕ → ℕ → Type 0) (low high : ℕ) (xs : List X) (i : ℕ) (best : Option (ℕ × ℕ)) → length xs ≤ i → IsFirstPair (λ a b. Any (λ y. F y a b) (take i xs)) low high best
    → IsFirstPair (λ a b. Any (λ y. F y a b) xs) low high best
IsFirstPair-all F low high xs i best end first = subst (λ l. IsFirstPair (λ a b. Any (λ y. F y a b) l) low high best) (take_all i xs end) first

pub IsFirstPlace-found : (P : ℕ → Type 0) (low high : ℕ) (place : Option ℕ) → IfSome place (IsLeastPlace P low high) → IfNone place (HoldsNowhere P low high) → IsFirstPlace P low high place
IsFirstPlace-found P low high None some none = none
IsFirstPlace-found P low high (Some place) some none = some

-- one that asks nothing of the first place
pub IsFirstPair-any : (P : ℕ → Type 0) (low high place : ℕ) → low ≤ high → IsLeastPlace P low high place → IsFirstPair (λ a b. P b) low high (Some (low, place))
IsFirstPair-any P low high place range least = record {
  first_from = omega arith;
  first_upto = range;
  second_from = least.from_low;
  second_upto = least.upto_high;
  here = least.here;
  least = λ a b a_from a_upto b_from b_upto holds.
      let upto : place ≤ b = least.least b b_from holds in
      ⊎_elim (λ (less : low < a). inl less) (λ (more : a ≤ low). inr (omega arith, upto)) (cases_lt low a);
}

-- one that no pair of the range is before is the first of whatever else there is
pub IsFirstPair-stop : (P Q : ℕ → ℕ → Type 0) (low high : ℕ) (best : Option (ℕ × ℕ)) → is_lowest low best ≡ true → ((a b : ℕ) → P a b → Q a b) → IsFirstPair P low high best → IsFirstPair Q low high best
IsFirstPair-stop P Q low high None lowest forth none = absurd (false≢true lowest)
IsFirstPair-stop P Q low high (Some pair) lowest forth first =
    let test = and_parts (leb pair.0 low) (leb pair.1 low) lowest in
    let at_first : pair.0 ≤ low = leb-true pair.0 low test.0 in
    let at_second : pair.1 ≤ low = leb-true pair.1 low test.1 in
    record {
      first_from = first.first_from;
      first_upto = first.first_upto;
      second_from = first.second_from;
      second_upto = first.second_upto;
      here = forth pair.0 pair.1 first.here;
      least = λ a b a_from a_upto b_from b_upto holds. ⊎_elim (λ (less : pair.0 < a). inl less) (λ (more : a ≤ pair.0). inr (omega arith, omega arith)) (cases_lt pair.0 a);
    }

pub IsFirstPair-enough : {X : Type 0} (F : X → ℕ → ℕ → Type 0) (low high : ℕ) (xs : List X) (i : ℕ) (best : Option (ℕ × ℕ)) → is_lowest low best ≡ true
    → IsFirstPair (λ a b. Any (λ y. F y a b) (take i xs)) low high best → IsFirstPair (λ a b. Any (λ y. F y a b) xs) low high best
IsFirstPair-enough F low high xs i best lowest first =
    IsFirstPair-stop (λ a b. Any (λ y. F y a b) (take i xs)) (λ a b. Any (λ y. F y a b) xs) low high best lowest (λ a b any. Any-untake (λ y. F y a b) i xs any) first

-- the first place of all
pub IsLeastPlace-low : (P : ℕ → Type 0) (low high place : ℕ) → IsLeastPlace (λ n. (n ≡ low) × P n) low high place → IsLeastPlace P low high place
IsLeastPlace-low P low high place is = record {
  from_low = is.from_low;
  upto_high = is.upto_high;
  here = is.here.1;
  least = λ other from holds. let same : place ≡ low = is.here.0 in omega arith;
}
