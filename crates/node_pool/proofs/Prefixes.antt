-- Lists that agree as far as they were walked.
use Rattle.std.proofs.Common.{◌≡◌, ℕ, ◌+◌, ◌<◌, ◌≤◌, List, [], ◌∷◌, ◌++◌, length, get_or, map, take, sym, ap, subst, ◌∙◌}
use Rattle.std.proofs.lemmas.List.{take_more, map-append}
use Rattle.node_pool.proofs.Looks.{take-whole}

-- one more item, beside what was gathered
pub gathered-more : {X Y Z : Type 0} (f : X → Z) (g : Y → Z) (xs : List X) (ys : List Y) (i : ℕ) (x : X) (y : Y) → i < length xs → map f (take i xs) ≡ map g ys → f (get_or xs i x) ≡ g y → map f (take (i + 1) xs) ≡ map g (ys ++ y ∷ [])
gathered-more f g xs ys i x y lt h e = ap (map f) (take_more xs i x lt) ∙ map-append f (take i xs) (get_or xs i x ∷ []) ∙ (λ j. h j ++ e j ∷ []) ∙ sym (map-append g ys (y ∷ []))

-- one more item of each of two lists
pub agree-more : {X Y Z : Type 0} (f : X → Z) (g : Y → Z) (xs : List X) (ys : List Y) (i : ℕ) (x : X) (y : Y) → i < length xs → length xs ≡ length ys → x ≡ get_or xs i x → y ≡ get_or ys i y → map f (take i xs) ≡ map g (take i ys) → f x ≡ g y
    → map f (take (i + 1) xs) ≡ map g (take (i + 1) ys)
agree-more f g xs ys i x y lt long at_x at_y h e =
    gathered-more f g xs (take i ys) i x y lt h (ap f (sym at_x) ∙ e) ∙ ap (map g) (sym (take_more ys i y (subst (λ n. i < n) long lt) ∙ ap (λ z. take i ys ++ z ∷ []) (sym at_y)))

pub agree-whole : {X Y Z : Type 0} (f : X → Z) (g : Y → Z) (xs : List X) (ys zs : List Y) (i : ℕ) → length xs ≤ i → length xs ≡ length ys → ys ≡ zs → map f (take i xs) ≡ map g (take i ys) → map f xs ≡ map g zs
agree-whole f g xs ys zs i end long is h = ap (map f) (sym (take-whole i xs end)) ∙ h ∙ ap (map g) (take-whole i ys (subst (λ n. n ≤ i) long end) ∙ is)
