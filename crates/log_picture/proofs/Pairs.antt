-- Two lists side by side, one pair after another.
use Rattle.std.proofs.Common.{◌≡◌, ℕ, Bool, zero, suc, ◌+◌, ◌<◌, min, List, [], ◌∷◌, ◌++◌, length, filter, get_or, take, refl, ap, ap₂, sym, ◌∙◌, arith, add-one}
use Rattle.std.proofs.lemmas.List.Elements.{filter-append}
use Rattle.std.specs.List.{zip}

pairs_suc : {A B : Type 0} (xs : List A) (ys : List B) (n : ℕ) (x : A) (y : B) → n < length xs → n < length ys → x ≡ get_or xs n x → y ≡ get_or ys n y
    → zip (take (suc n) xs) (take (suc n) ys) ≡ zip (take n xs) (take n ys) ++ (x, y) ∷ []
pairs_suc [] ys n x y within below is at = absurd (omega (arith, within))
pairs_suc (a ∷ xs) [] n x y within below is at = absurd (omega (arith, below))
pairs_suc (a ∷ xs) (b ∷ ys) zero x y within below is at = ap₂ (λ u v. (u, v) ∷ []) (sym is) (sym at)
pairs_suc (a ∷ xs) (b ∷ ys) (suc n) x y within below is at = ap (λ l. (a, b) ∷ l) (pairs_suc xs ys n x y (omega (arith, within)) (omega (arith, below)) is at)

-- those of the pairs that pass a test: one pair more
pub passed_more : {A B : Type 0} (p : A × B → Bool) (xs : List A) (ys : List B) (n : ℕ) (x : A) (y : B) (old new : List (A × B)) → n < length xs → n < length ys → x ≡ get_or xs n x → y ≡ get_or ys n y
    → old ≡ filter p (zip (take n xs) (take n ys)) → new ≡ old ++ filter p ((x, y) ∷ []) → new ≡ filter p (zip (take (n + 1) xs) (take (n + 1) ys))
passed_more p xs ys n x y old new within below is at so_far more =
    more ∙ ap (λ l. l ++ filter p ((x, y) ∷ [])) so_far ∙ sym (filter-append p (zip (take n xs) (take n ys)) ((x, y) ∷ []))
    ∙ ap (filter p) (sym (ap (λ k. zip (take k xs) (take k ys)) (add-one n) ∙ pairs_suc xs ys n x y within below is at))

-- all of the pairs
pub all_pairs : {A B : Type 0} (xs : List A) (ys : List B) (n : ℕ) → n ≡ min (length xs) (length ys) → zip (take n xs) (take n ys) ≡ zip xs ys
all_pairs [] ys zero e = refl
all_pairs [] ys (suc n) e = absurd (omega (arith, e))
all_pairs (x ∷ xs) [] zero e = refl
all_pairs (x ∷ xs) [] (suc n) e = absurd (omega (arith, e))
all_pairs (x ∷ xs) (y ∷ ys) zero e = absurd (omega (arith, e))
all_pairs (x ∷ xs) (y ∷ ys) (suc n) e = ap (λ l. (x, y) ∷ l) (all_pairs xs ys n (omega (arith, e)))
