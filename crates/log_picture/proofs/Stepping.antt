-- Every so manyth item of a list.
use Rattle.std.proofs.Common.{◌≡◌, ℕ, ◌+◌, ◌<◌, Bool, true, false, List, [], ◌∷◌, ◌++◌, length, map, take, get_or, refl, ap, sym, ◌∙◌, arith}
use Rattle.std.specs.Prelude.{◌%◌, ◌==◌, if◌then◌else◌}
use Rattle.std.proofs.lemmas.Bool.{ne_eqb}
use Rattle.std.proofs.lemmas.List.{append-nil, get_or_default, length-map, length-take-le}
use Rattle.base_types.proofs.Prefixes.{take-next}
use Rattle.log_picture.specs.Limits.{each_from, rest_of, spread, step_for}

one_more : {A : Type 0} (taken : Bool) (y : A) (r s t : List A) → r ≡ s ++ t → (if taken then y ∷ r else r) ≡ (if taken then y ∷ s else s) ++ t
one_more true y r s t e = ap (λ l. y ∷ l) e
one_more false y r s t e = e

-- a list and an item more
each_append : {A : Type 0} (position step : ℕ) (xs : List A) (x : A) → each_from position step (xs ++ x ∷ []) ≡ each_from position step xs ++ each_from (position + length xs) step (x ∷ [])
each_append position step [] x = let e : position ≡ position + 0 = omega arith in ap (λ n. each_from n step (x ∷ [])) e
each_append position step (y ∷ ys) x =
    let e : position + 1 + length ys ≡ position + length (y ∷ ys) = omega arith in
    one_more (position % step == 0) y _ _ _ (each_append (position + 1) step ys x ∙ ap (λ n. each_from (position + 1) step ys ++ each_from n step (x ∷ [])) e)

if_map : {A B : Type 0} (f : A → B) (taken : Bool) (x : A) (r : List B) (s : List A) → r ≡ map f s → (if taken then f x ∷ r else r) ≡ map f (if taken then x ∷ s else s)
if_map f true x r s e = ap (λ l. f x ∷ l) e
if_map f false x r s e = e

each_map : {A B : Type 0} (f : A → B) (position step : ℕ) (xs : List A) → each_from position step (map f xs) ≡ map f (each_from position step xs)
each_map f position step [] = refl
each_map f position step (x ∷ xs) = if_map f (position % step == 0) x _ _ (each_map f (position + 1) step xs)

-- of what a function makes of the items
pub spread-map : {A B : Type 0} (f : A → B) (limit : ℕ) (xs : List A) → spread limit (map f xs) ≡ map f (spread limit xs)
unfolding spread
spread-map f limit xs =
    ap (λ n. each_from 0 (step_for limit n) (map f xs)) (length-map xs f) ∙ each_map f 0 (step_for limit (length xs)) xs

pub rest_of-map : {A B : Type 0} (f : A → B) (limit : ℕ) (xs : List A) (words : List ℕ) → rest_of limit (map f xs) words ≡ rest_of limit xs words
unfolding rest_of
rest_of-map f limit xs words = rw (spread-map f limit xs, length-map (spread limit xs) f, length-map xs f) refl

last_taken : {A : Type 0} (step n : ℕ) (x : A) → n % step ≡ 0 → each_from n step (x ∷ []) ≡ x ∷ []
last_taken step n x e = rw e refl

not_none : (n : ℕ) → 0 < n → n ≡ 0 → ⊥
not_none n l e = omega (arith, l, e)

none_where : {A : Type 0} (n : ℕ) (xs ys : List A) → 0 < n → (if n == 0 then xs else ys) ≡ ys
none_where n xs ys l = let e = ne_eqb n 0 (not_none n l) in rw e refl

front_length : {A : Type 0} (n : ℕ) (xs : List A) → n < length xs → 0 + length (take n xs) ≡ n
front_length n xs within = let l = length-take-le n xs (omega (arith, within)) in omega (arith, l)

next_is : {A : Type 0} (step n : ℕ) (xs : List A) (x : A) → n < length xs → x ≡ get_or xs n x → each_from 0 step (take (n + 1) xs) ≡ each_from 0 step (take n xs) ++ each_from n step (x ∷ [])
next_is step n xs x within is =
    ap (each_from 0 step) (take-next xs n x within is) ∙ each_append 0 step (take n xs) x
    ∙ ap (λ k. each_from 0 step (take n xs) ++ each_from k step (x ∷ [])) (front_length n xs within)

-- the item at a multiple of the step is taken too
pub taken_more : {A : Type 0} (step n : ℕ) (xs taken : List A) (x : A) → n < length xs → x ≡ get_or xs n x → n % step ≡ 0 → taken ≡ each_from 0 step (take n xs) → taken ++ x ∷ [] ≡ each_from 0 step (take (n + 1) xs)
taken_more step n xs taken x within is at so_far =
    ap (λ l. l ++ x ∷ []) so_far ∙ sym (next_is step n xs x within is ∙ ap (λ l. each_from 0 step (take n xs) ++ l) (last_taken step n x at))

-- any other isn't
pub passed_by : {A : Type 0} (step n : ℕ) (xs taken : List A) → n < length xs → 0 < n % step → taken ≡ each_from 0 step (take n xs) → taken ≡ each_from 0 step (take (n + 1) xs)
passed_by step n [] taken within at so_far = absurd (omega (arith, within))
passed_by step n (y ∷ ys) taken within at so_far =
    let x = get_or (y ∷ ys) n y in
    so_far ∙ sym (next_is step n (y ∷ ys) x within (get_or_default (y ∷ ys) n y x within) ∙ ap (λ l. each_from 0 step (take n (y ∷ ys)) ++ l) (none_where (n % step) (x ∷ []) [] at) ∙ append-nil (each_from 0 step (take n (y ∷ ys))))
