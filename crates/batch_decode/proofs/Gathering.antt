-- What was answered to all places of a list, in order, holds of the list item by item; places of which there is an
-- answer have entered.
use Rattle.std.proofs.Common.{◌≡◌, ℕ, zero, suc, ◌+◌, ◌<◌, List, [], ◌∷◌, length, get_or, map, Ok, Some, IfOk, slice_get, sym, ap, subst, ◌∙◌, arith}
use Rattle.std.specs.List.{AllZip, range_with_len}
use Rattle.std.proofs.lemmas.Option.{slice_get-get_or, same_Some}
use Rattle.std.proofs.lemmas.Result.{IfOk-weaker}
use Rattle.std.specs.declared.result.Result.{Result}

-- where the call for a place gives a value, it is right for the item that stands there
abbrev pub AnswersPlace : {X Y E : Type 0} → (X → Y → Type 0) → List X → ℕ → Result Y E → Type 0
AnswersPlace {X} P xs place answer = IfOk answer (λ y. (x : X) × (slice_get xs place ≡ Some x) × P x y)

-- what holds of each pair of items, for another reason
pub each_pair : {X Y : Type 0} {P Q : X → Y → Type 0} (xs : List X) (ys : List Y) → AllZip P xs ys → ((x : X) (y : Y) → P x y → Q x y) → AllZip Q xs ys
each_pair [] [] all so = tt
each_pair [] (y ∷ ys) all so = absurd all
each_pair (x ∷ xs) [] all so = absurd all
each_pair (x ∷ xs) (y ∷ ys) all so = (so x y all.0, each_pair xs ys all.1 so)

module _ {X Y : Type 0} (E : Type 0) (P : X → Y → Type 0) where
  -- from a place on
  gathered_from : (xs : List X) (a : ℕ) (rest : List X) (ys : List Y) → ((k : ℕ) (d : X) → k < length rest → slice_get xs (a + k) ≡ Some (get_or rest k d))
      → AllZip (AnswersPlace {E = E} P xs) (range_with_len a (length rest)) (map Ok ys) → AllZip P rest ys
  gathered_from xs a [] [] stands each = tt
  gathered_from xs a [] (y ∷ ys) stands each = absurd each
  gathered_from xs a (x ∷ rest) [] stands each = absurd each
  gathered_from xs a (x ∷ rest) (y ∷ ys) stands each =
      let first : slice_get xs a ≡ Some x = (let here : a ≡ a + 0 = omega arith in ap (slice_get xs) here ∙ stands 0 x (omega arith)) in
      let same : each.0.0 ≡ x = same_Some each.0.0 x (sym each.0.1 ∙ first) in
      let next = λ (k : ℕ) (d : X) (below : k < length rest).
      let step : a + 1 + k ≡ a + suc k = omega arith in ap (slice_get xs) step ∙ stands (suc k) d (omega arith) in
      (subst (λ z. P z y) same each.0.2, gathered_from xs (a + 1) rest ys next each.1)

  pub gathered : (xs : List X) (ys : List Y) → AllZip (AnswersPlace {E = E} P xs) (range_with_len 0 (length xs)) (map Ok ys) → AllZip P xs ys
  gathered xs ys each = gathered_from xs 0 xs ys (λ k d below. let here : 0 + k ≡ k = omega arith in ap (slice_get xs) here ∙ slice_get-get_or xs k d below) each

-- the same, and the place has entered
abbrev pub AnswersEntered : {X Y E : Type 0} → (X → Y → Type 0) → (ℕ → Type 0) → List X → ℕ → Result Y E → Type 0
AnswersEntered {X} P Entered xs place answer = IfOk answer (λ y. ((x : X) × (slice_get xs place ≡ Some x) × P x y) × Entered place)

module _ {X Y : Type 0} (E : Type 0) (P : X → Y → Type 0) (Entered : ℕ → Type 0) (xs : List X) where
  -- from a place on
  entered_from : (a n : ℕ) (ys : List Y) → AllZip (AnswersEntered {E = E} P Entered xs) (range_with_len a n) (map Ok ys) → (k : ℕ) → k < n → Entered (a + k)
  entered_from a zero ys each k below = absurd (omega (arith, below))
  entered_from a (suc n) [] each k below = absurd each
  entered_from a (suc n) (y ∷ ys) each zero below = let here : a ≡ a + 0 = omega arith in subst Entered here each.0.1
  entered_from a (suc n) (y ∷ ys) each (suc k) below = let next : a + 1 + k ≡ a + suc k = omega arith in subst Entered next (entered_from (a + 1) n ys each.1 k (omega (arith, below)))

  pub all_entered : (ys : List Y) → AllZip (AnswersEntered {E = E} P Entered xs) (range_with_len 0 (length xs)) (map Ok ys) → (place : ℕ) → place < length xs → Entered place
  all_entered ys each place below = let same : 0 + place ≡ place = omega arith in subst Entered same (entered_from 0 (length xs) ys each place below)

  pub answered : (ys : List Y) → AllZip (AnswersEntered {E = E} P Entered xs) (range_with_len 0 (length xs)) (map Ok ys) → AllZip P xs ys
  answered ys each =
      gathered E P xs ys (each_pair (range_with_len 0 (length xs)) (map Ok ys) each (λ place answer so. IfOk-weaker answer _ _ (λ y both. both.0) so))
