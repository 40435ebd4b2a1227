-- A list whose items are put into a set one after another has no repeats where each was new.
use Rattle.std.proofs.Common.{◌≡◌, ℕ, ◌+◌, ◌<◌, subst, Bool, true, false, ◌&&◌, ◌||◌, List, [], ◌∷◌, length, get_or, drop, refl, sym, ap, ◌∙◌, suc, add-one, drop-cons}
use Rattle.std.specs.Bool.{MatchBool}
use Rattle.std.proofs.lemmas.Bool.{false≢true}
use Rattle.std.specs.Prelude.{map, not}
use Rattle.std.specs.List.{list_any, list_all}
use Rattle.std.specs.List.Sorted.{IsPermutation}
use Rattle.std.proofs.lemmas.List.Sorted.{list_any-IsPermutation}
use Rattle.setup_file.specs.Distinct.{are_distinct}

-- no item was seen, and no two are equal
abbrev pub are_new : {X : Type 0} → (X → X → Bool) → (X → Bool) → List X → Bool
are_new same seen [] = true
are_new same seen (x ∷ xs) = not (seen x) && are_new same (λ y. same y x || seen y) xs

-- whether an item is one of these keys
abbrev pub seen_in : {K X : Type 0} → (X → X → Bool) → (K → X) → List K → X → Bool
seen_in same view keys x = list_any (λ key. same x (view key)) keys

new_congr : {X : Type 0} (same : X → X → Bool) (p q : X → Bool) (xs : List X) → ((x : X) → p x ≡ q x) → are_new same p xs ≡ are_new same q xs
new_congr same p q [] e = refl
new_congr same p q (x ∷ xs) e =
    ap (λ b. not b && are_new same (λ y. same y x || p y) xs) (e x)
    ∙ ap (λ b. not (q x) && b) (new_congr same (λ y. same y x || p y) (λ y. same y x || q y) xs (λ y. ap (λ b. same y x || b) (e y)))

-- neither of two tests is passed
both_apart : (a b c d : Bool) → (not (a || b) && (not c && d)) ≡ (not (a || c) && (not b && d))
both_apart true b c d = refl
both_apart false true true d = refl
both_apart false true false d = refl
both_apart false false true d = refl
both_apart false false false d = refl

no_other : {X : Type 0} (p q : X → Bool) (xs : List X) → list_all (λ x. not (p x || q x)) xs ≡ (not (list_any p xs) && list_all (λ x. not (q x)) xs)
no_other p q [] = refl
no_other p q (x ∷ xs) =
    ap (λ b. not (p x || q x) && b) (no_other p q xs)
    ∙ both_apart (p x) (q x) (list_any p xs) (list_all (λ y. not (q y)) xs)

turned : (a b c d : Bool) → (a && ((b && c) && d)) ≡ ((a && c) && (b && d))
turned true true true d = refl
turned true true false d = refl
turned true false true d = refl
turned true false false d = refl
turned false b c d = refl

new_is : {X : Type 0} (same : X → X → Bool) (seen : X → Bool) (xs : List X) → are_new same seen xs ≡ (list_all (λ x. not (seen x)) xs && are_distinct same xs)
new_is same seen [] = refl
new_is same seen (x ∷ xs) =
    ap (λ b. not (seen x) && b) (new_is same (λ y. same y x || seen y) xs)
    ∙ ap (λ b. not (seen x) && (b && are_distinct same xs)) (no_other (λ y. same y x) seen xs)
    ∙ turned (not (seen x)) (not (list_any (λ y. same y x) xs)) (list_all (λ y. not (seen y)) xs) (are_distinct same xs)

all_unseen : {X : Type 0} (xs : List X) → list_all (λ x. not false) xs ≡ true
all_unseen [] = refl
all_unseen (x ∷ xs) = all_unseen xs

-- before the first item nothing was seen
pub distinct_new : {K X : Type 0} (same : X → X → Bool) (view : K → X) (xs : List X) → are_distinct same xs ≡ are_new same (seen_in same view []) xs
distinct_new same view xs = sym (new_is same (λ x. false) xs ∙ ap (λ b. b && are_distinct same xs) (all_unseen xs))

pub cut : {K : Type 0} (xs : List K) (i : ℕ) (item : K) → i < length xs → item ≡ get_or xs i item → drop i xs ≡ item ∷ drop (i + 1) xs
cut xs i item within at = rw (add-one, drop-cons xs i item) (ap (λ x. x ∷ drop (suc i) xs) (sym at))

along : {K X : Type 0} (same : X → X → Bool) (view : K → X) (xs : List K) (i : ℕ) (item : K) (keys : List K) → i < length xs → item ≡ get_or xs i item
    → are_new same (seen_in same view keys) (map view (drop i xs))
    ≡ (not (seen_in same view keys (view item)) && are_new same (λ y. same y (view item) || seen_in same view keys y) (map view (drop (i + 1) xs)))
along same view xs i item keys within at = ap (λ l. are_new same (seen_in same view keys) (map view l)) (cut xs i item within at)

-- one more item that was new
pub new_step : {K X : Type 0} (same : X → X → Bool) (view : K → X) (xs : List K) (i : ℕ) (item : K) (keys after : List K) (all : Bool) → i < length xs → item ≡ get_or xs i item
    → seen_in same view keys (view item) ≡ false → IsPermutation (item ∷ keys) after
    → all ≡ are_new same (seen_in same view keys) (map view (drop i xs)) → all ≡ are_new same (seen_in same view after) (map view (drop (i + 1) xs))
new_step same view xs i item keys after all within at unseen perm before =
    before
    ∙ along same view xs i item keys within at
    ∙ ap (λ b. not b && are_new same (λ y. same y (view item) || seen_in same view keys y) (map view (drop (i + 1) xs))) unseen
    ∙ new_congr same (λ y. same y (view item) || seen_in same view keys y) (seen_in same view after) (map view (drop (i + 1) xs))
    (λ y. list_any-IsPermutation (λ key. same y (view key)) (item ∷ keys) after perm)

-- an item that was seen
pub seen_step : {K X : Type 0} (same : X → X → Bool) (view : K → X) (xs : List K) (i : ℕ) (item : K) (keys : List K) (all : Bool) → i < length xs → item ≡ get_or xs i item
    → seen_in same view keys (view item) ≡ true → all ≡ are_new same (seen_in same view keys) (map view (drop i xs)) → false ≡ all
seen_step same view xs i item keys all within at seen before =
    sym (before
    ∙ along same view xs i item keys within at
    ∙ ap (λ b. not b && are_new same (λ y. same y (view item) || seen_in same view keys y) (map view (drop (i + 1) xs))) seen)

pub unseen : (added seen : Bool) → added ≡ not seen → added ≡ true → seen ≡ false
unseen added true e t = absurd (false≢true (sym e ∙ t))
unseen added false e t = refl

pub put_key : (P Q : Type 0) (added : Bool) → MatchBool added P Q → added ≡ true → P
put_key P Q added m t = let F : Bool → Type 0 = λ v. MatchBool v P Q in subst F t m
