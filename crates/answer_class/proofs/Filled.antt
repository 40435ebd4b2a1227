-- The members of a query that pass a test, as a loop over the query finds them.
use Rattle.std.proofs.Common.{◌≡◌, ℕ, zero, suc, ◌+◌, ◌<◌, ◌≤◌, Bool, true, false, cond, List, [], ◌∷◌, ◌++◌, length, get_or, take, drop, filter, Option, Some, None, refl, sym, ap, ◌∙◌, arith}
use Rattle.std.specs.Prelude.{option_map, is_some}
use Rattle.std.proofs.lemmas.Bool.{false≢true}
use Rattle.std.proofs.lemmas.List.{append-nil, take_more, take-append-drop}
use Rattle.std.proofs.lemmas.List.Elements.{filter-append}
use Rattle.base_types.specs.declared.kubernetes.request.Pair.{Pair}
use Rattle.answer_class.specs.Lists.{one_at_most}

-- none, or one
abbrev pub some_list : {X : Type 0} → Option X → List X
some_list None = []
some_list (Some x) = x ∷ []

more : {X : Type 0} (p : X → Bool) (xs : List X) (i : ℕ) (x : X) → i < length xs → x ≡ get_or xs i x → filter p (take (i + 1) xs) ≡ filter p (take i xs) ++ cond (p x) (x ∷ []) []
more p xs i x lt is = ap (filter p) (take_more xs i x lt ∙ ap (λ y. take i xs ++ y ∷ []) (sym is)) ∙ filter-append p (take i xs) (x ∷ [])

-- the next member doesn't pass
pub still : {X : Type 0} (p : X → Bool) (xs ys : List X) (i : ℕ) (x : X) → i < length xs → x ≡ get_or xs i x → p x ≡ false → filter p (take i xs) ≡ ys → filter p (take (i + 1) xs) ≡ ys
still p xs ys i x lt is other before =
    more p xs i x lt is ∙ ap (λ b. filter p (take i xs) ++ cond b (x ∷ []) []) other ∙ append-nil (filter p (take i xs)) ∙ before

-- the next member is the first that passes
pub found_first : {X : Type 0} (p : X → Bool) (xs : List X) (i : ℕ) (x : X) → i < length xs → x ≡ get_or xs i x → p x ≡ true → filter p (take i xs) ≡ [] → filter p (take (i + 1) xs) ≡ x ∷ []
found_first p xs i x lt is passes before =
    more p xs i x lt is ∙ (λ j. before j ++ cond (passes j) (x ∷ []) [])

-- the next member is the second that passes
pub several : (p : Pair → Bool) (xs : List Pair) (i : ℕ) (x y : Pair) → i < length xs → x ≡ get_or xs i x → p x ≡ true → filter p (take i xs) ≡ y ∷ [] → one_at_most (filter p xs) ≡ None
several p xs i x y lt is passes before =
    let front : filter p (take (i + 1) xs) ≡ y ∷ x ∷ [] = more p xs i x lt is ∙ (λ j. before j ++ cond (passes j) (x ∷ []) []) in
    let whole : filter p xs ≡ (y ∷ x ∷ []) ++ filter p (drop (i + 1) xs) = ap (filter p) (sym (take-append-drop (i + 1) xs)) ∙ filter-append p (take (i + 1) xs) (drop (i + 1) xs) ∙ ap (λ l. l ++ filter p (drop (i + 1) xs)) front in
    ap one_at_most whole

take-whole : {X : Type 0} (n : ℕ) (xs : List X) → length xs ≤ n → take n xs ≡ xs
take-whole zero [] le = refl
take-whole zero (x ∷ xs) le = absurd (omega arith)
take-whole (suc n) [] le = refl
take-whole (suc n) (x ∷ xs) le = ap (λ l. x ∷ l) (take-whole n xs (omega arith))

-- no more members
pub one : (p : Pair → Bool) (xs : List Pair) (i : ℕ) (o : Option Pair) → length xs ≤ i → filter p (take i xs) ≡ some_list o → one_at_most (filter p xs) ≡ Some o
one p xs i o le found = ap one_at_most (ap (filter p) (sym (take-whole i xs le)) ∙ found) ∙ alone o
  where
    alone : (o : Option Pair) → one_at_most (some_list o) ≡ Some o
    alone None = refl
    alone (Some x) = refl

-- the same where the loop holds what it found as something else, as a reference
pub held : {X : Type 0} (p : Pair → Bool) (xs : List Pair) (i : ℕ) (x : Pair) (o o' : Option X) (f : X → Pair) → i < length xs → x ≡ get_or xs i x → p x ≡ false → o' ≡ o
    → filter p (take i xs) ≡ some_list (option_map f o) → filter p (take (i + 1) xs) ≡ some_list (option_map f o')
held p xs i x o o' f lt is other same before = still p xs (some_list (option_map f o')) i x lt is other (before ∙ ap (λ o. some_list (option_map f o)) (sym same))

pub held_first : {X : Type 0} (p : Pair → Bool) (xs : List Pair) (i : ℕ) (x : Pair) (o o' : Option X) (y : X) (f : X → Pair) → i < length xs → x ≡ get_or xs i x → p x ≡ true → is_some o ≡ false → o' ≡ Some y → f y ≡ x
    → filter p (take i xs) ≡ some_list (option_map f o) → filter p (take (i + 1) xs) ≡ some_list (option_map f o')
held_first p xs i x None o' y f lt is passes none same now before =
    found_first p xs i x lt is passes before ∙ ap (λ z. z ∷ []) (sym now) ∙ sym (ap (λ o. some_list (option_map f o)) same)
held_first p xs i x (Some z) o' y f lt is passes none same now before = absurd (false≢true (sym none))

pub held_several : {X : Type 0} (p : Pair → Bool) (xs : List Pair) (i : ℕ) (x : Pair) (o : Option X) (f : X → Pair) → i < length xs → x ≡ get_or xs i x → p x ≡ true → is_some o ≡ true
    → filter p (take i xs) ≡ some_list (option_map f o) → None ≡ one_at_most (filter p xs)
held_several p xs i x None f lt is passes some before = absurd (false≢true some)
held_several p xs i x (Some y) f lt is passes some before = sym (several p xs i x (f y) lt is passes before)
