-- Two lists that agree as far as they were walked.
use Rattle.std.proofs.Common.{◌≡◌, ℕ, zero, suc, ◌+◌, ◌<◌, ◌≤◌, ◌↔◌, IsTrue, false, Some, slice_get, List, [], ◌∷◌, ◌++◌, length, get_or, take, refl, sym, ap, subst, ◌∙◌, arith}
use Rattle.std.proofs.lemmas.List.{take_more}
use Rattle.std.proofs.lemmas.Option.{slice_get-get_or}

pub take-next : {X : Type 0} (xs : List X) (i : ℕ) (x : X) → i < length xs → x ≡ get_or xs i x → take (i + 1) xs ≡ take i xs ++ x ∷ []
take-next xs i x lt is = take_more xs i x lt ∙ ap (λ y. take i xs ++ y ∷ []) (sym is)

pub take-whole : {X : Type 0} (n : ℕ) (xs : List X) → length xs ≤ n → take n xs ≡ xs
take-whole zero [] le = refl
take-whole zero (x ∷ xs) le = absurd (omega arith)
take-whole (suc n) [] le = refl
take-whole (suc n) (x ∷ xs) le = ap (λ l. x ∷ l) (take-whole n xs (omega arith))

pub agree-more : {X : Type 0} (xs ys : List X) (i : ℕ) (x y : X) → i < length xs → length xs ≡ length ys → x ≡ get_or xs i x → y ≡ get_or ys i y → take i xs ≡ take i ys → x ≡ y → take (i + 1) xs ≡ take (i + 1) ys
agree-more xs ys i x y lt long at_x at_y h e = take-next xs i x lt at_x ∙ (λ j. h j ++ e j ∷ []) ∙ sym (take-next ys i y (subst (λ n. i < n) long lt) at_y)

pub agree-whole : {X : Type 0} (xs ys : List X) (i : ℕ) → length xs ≤ i → length xs ≡ length ys → take i xs ≡ take i ys → xs ≡ ys
agree-whole xs ys i end long h = sym (take-whole i xs end) ∙ h ∙ take-whole i ys (subst (λ n. n ≤ i) long end)

some-inj : {X : Type 0} (x y : X) → Some x ≡ Some y → x ≡ y
some-inj x y e = cc

-- lists that differ at a place are two lists
pub differ-at : {X : Type 0} (xs ys : List X) (i : ℕ) (x y : X) → i < length xs → length xs ≡ length ys → x ≡ get_or xs i x → y ≡ get_or ys i y → (x ≡ y → IsTrue false) → IsTrue false ↔ (xs ≡ ys)
differ-at xs ys i x y lt long at_x at_y other =
    let left : slice_get xs i ≡ Some x = slice_get-get_or xs i x lt ∙ ap Some (sym at_x) in
    let right : slice_get ys i ≡ Some y = slice_get-get_or ys i y (subst (λ n. i < n) long lt) ∙ ap Some (sym at_y) in (
      λ t. absurd (no_truth t),
      λ same. other (some-inj x y (sym left ∙ ap (λ l. slice_get l i) same ∙ right)),
    )
  where
    no_truth : IsTrue false → ⊥
    no_truth t = cc

-- one more item is copied
pub copied-more : {X : Type 0} (new all xs : List X) (i : ℕ) (x y : X) → new ≡ all ++ y ∷ [] → all ≡ take i xs → y ≡ x → i < length xs → x ≡ get_or xs i x → new ≡ take (i + 1) xs
copied-more new all xs i x y pushed h e lt at_x = pushed ∙ (λ j. h j ++ e j ∷ []) ∙ sym (take-next xs i x lt at_x)

pub copied-whole : {X : Type 0} (all xs ys : List X) (i : ℕ) → all ≡ take i xs → length xs ≤ i → xs ≡ ys → all ≡ ys
copied-whole all xs ys i h end is = h ∙ take-whole i xs end ∙ is
