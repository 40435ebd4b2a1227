-- Every list stands in an order that its elements allow.
use Rattle.std.proofs.Common.{ℕ, zero, suc, ◌<◌, ◌⊎◌, ⊎_elim, List, [], ◌∷◌, length, get_or, All, AllPairs, refl, arith}
use Rattle.std.specs.List.Sorted.{IsPermutation}
use Rattle.std.proofs.lemmas.List.Elements.{All-cons, All-nil, All-weaker}
use Rattle.std.proofs.lemmas.List.Sorted.{All-permutation, IsPermutation-cons, IsPermutation-refl, IsPermutation-swap, IsPermutation-trans}

-- each element is related to those after it
abbrev pub Ascends : {X : Type 0} → (X → X → Type 0) → List X → Type 0
Ascends R [] = Unit {0}
Ascends R (x ∷ xs) = All (R x) xs × Ascends R xs

AllPairs-cons : {X : Type 0} (R : X → X → Type 0) (x : X) (xs : List X) → All (R x) xs → AllPairs R xs → (i j : ℕ) (d : X) → i < j → j < length (x ∷ xs) → R (get_or (x ∷ xs) i d) (get_or (x ∷ xs) j d)
AllPairs-cons R x xs first rest zero zero d before within = absurd (omega arith)
AllPairs-cons R x xs first rest zero (suc j) d before within = first j d (omega arith)
AllPairs-cons R x xs first rest (suc i) zero d before within = absurd (omega arith)
AllPairs-cons R x xs first rest (suc i) (suc j) d before within = rest i j d (omega arith) (omega arith)

pub AllPairs-from_ascends : {X : Type 0} (R : X → X → Type 0) (xs : List X) → Ascends R xs → AllPairs R xs
AllPairs-from_ascends R [] ascends = λ i j d before within. absurd (omega arith)
AllPairs-from_ascends R (x ∷ xs) ascends = λ i j d before within. AllPairs-cons R x xs ascends.0 (AllPairs-from_ascends R xs ascends.1) i j d before within

-- an order in which each two elements can stand one way or the other
pub record IsOrder {X : Type 0} (R : X → X → Type 0) : Type 0 where
  pub decide : (a b : X) → R a b ⊎ R b a
  pub trans : (a b c : X) → R a b → R b c → R a c

-- a list in order with one element more
pub record IsArranged {X : Type 0} (R : X → X → Type 0) (xs : List X) : Type 0 where
  pub list : List X
  pub same : IsPermutation xs list
  pub ascends : Ascends R list

IsPermutation-second : {X : Type 0} (x y : X) (xs ys : List X) → IsPermutation (x ∷ xs) ys → IsPermutation (x ∷ y ∷ xs) (y ∷ ys)
IsPermutation-second x y xs ys same =
    IsPermutation-trans (x ∷ y ∷ xs) (y ∷ x ∷ xs) (y ∷ ys) (IsPermutation-swap (x ∷ y ∷ xs) (y ∷ x ∷ xs) 0 1 (omega arith) (omega arith) refl) (IsPermutation-cons y (x ∷ xs) ys same)

placed : {X : Type 0} (R : X → X → Type 0) → IsOrder R → (x : X) (xs : List X) → Ascends R xs → IsArranged R (x ∷ xs)
placed R order x [] ascends = record { list = x ∷ []; same = IsPermutation-refl (x ∷ []); ascends = (All-nil (R x), tt) }
placed R order x (y ∷ ys) ascends = ⊎_elim
    (λ before. record {
      list = x ∷ y ∷ ys;
      same = IsPermutation-refl (x ∷ y ∷ ys);
      ascends = (All-cons (R x) y ys before (All-weaker (R y) (R x) (λ z after. order.trans x y z before after) ys ascends.0), ascends);
    })
    (λ after.
    let rest = placed R order x ys ascends.1 in
    record {
      list = y ∷ rest.list;
      same = IsPermutation-second x y ys rest.list rest.same;
      ascends = (All-permutation (R y) (x ∷ ys) rest.list rest.same (All-cons (R y) x ys after ascends.0), rest.ascends);
    })
    (order.decide x y)

pub arranged : {X : Type 0} (R : X → X → Type 0) → IsOrder R → (xs : List X) → IsArranged R xs
arranged R order [] = record { list = []; same = IsPermutation-refl []; ascends = tt }
arranged R order (x ∷ xs) =
    let rest = arranged R order xs in
    let whole = placed R order x rest.list rest.ascends in
    record {
      list = whole.list;
      same = IsPermutation-trans (x ∷ xs) (x ∷ rest.list) whole.list (IsPermutation-cons x xs rest.list rest.same) whole.same;
      ascends = whole.ascends;
    }
