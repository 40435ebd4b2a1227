-- Members of lists.
use Rattle.std.proofs.Common.{◌≡◌, ℕ, zero, suc, ◌<◌, ◌⊎◌, List, [], ◌∷◌, length, get_or, All, AllPairs, Contains, Some, slice_get, take, inl, inr, refl, sym, ap, ◌∙◌, subst, arith}
use Rattle.std.proofs.lemmas.Option.{same_Some}
use Rattle.std.proofs.lemmas.List.Elements.{All-contains}

pub not_in_none : {X : Type 0} {x : X} → Contains [] x → ⊥
not_in_none (k, l, e) = omega arith

pub here : {X : Type 0} (x : X) (xs : List X) → Contains (x ∷ xs) x
here x xs = (0, omega arith, refl)

pub there : {X : Type 0} (x y : X) (xs : List X) → Contains xs y → Contains (x ∷ xs) y
there x y xs (k, l, e) = (suc k, omega arith, e)

pub in_cons : {X : Type 0} (x : X) (xs : List X) (y : X) → Contains (x ∷ xs) y → (x ≡ y) ⊎ Contains xs y
in_cons x xs y (zero, l, e) = inl e
in_cons x xs y (suc k, l, e) = inr (k, omega arith, e)

-- what holds of each holds of a member
pub all_at : {X : Type 0} (P : X → Type 0) (xs : List X) (x : X) → All P xs → Contains xs x → P x
all_at P xs x h c = All-contains P xs x h c

pub all_from : {X : Type 0} (P : X → Type 0) (xs : List X) → ((x : X) → Contains xs x → P x) → All P xs
all_from P [] h = λ k d l. absurd (omega arith)
all_from {X} P (x ∷ xs) h = go (all_from P xs (λ y c. h y (there x y xs c)))
  where
    go : All P xs → (k : ℕ) (d : X) → k < length (x ∷ xs) → P (get_or (x ∷ xs) k d)
    go rest zero d l = h x (here x xs)
    go rest (suc k) d l = rest k d (omega arith)

pub pairs_head : {X : Type 0} (R : X → X → Type 0) (x : X) (xs : List X) → AllPairs R (x ∷ xs) → All (R x) xs
pairs_head R x xs h = λ k d l. h 0 (suc k) d (omega arith) (omega arith)

pub pairs_tail : {X : Type 0} (R : X → X → Type 0) (x : X) (xs : List X) → AllPairs R (x ∷ xs) → AllPairs R xs
pairs_tail R x xs h = λ i j d l m. h (suc i) (suc j) d (omega arith) (omega arith)

pub pairs_cons : {X : Type 0} (R : X → X → Type 0) (x : X) (xs : List X) → All (R x) xs → AllPairs R xs → AllPairs R (x ∷ xs)
pairs_cons {X} R x xs head tail = go
  where
    go : (i j : ℕ) (d : X) → i < j → j < length (x ∷ xs) → R (get_or (x ∷ xs) i d) (get_or (x ∷ xs) j d)
    go i zero d l m = absurd (omega arith)
    go zero (suc j) d l m = head j d (omega arith)
    go (suc i) (suc j) d l m = tail i j d (omega arith) (omega arith)

-- in a list that rises by a number, members of one number are one
pub apart : {X : Type 0} (f : X → ℕ) (xs : List X) (x y : X) → AllPairs (λ a b. f a < f b) xs → Contains xs x → Contains xs y → f x ≡ f y → x ≡ y
apart f [] x y h c e p = absurd (not_in_none c)
apart {X} f (z ∷ zs) x y h c e p = go (λ a b. apart f zs x y (pairs_tail (λ a b. f a < f b) z zs h) a b p) (in_cons z zs x c) (in_cons z zs y e)
  where
    above : (w : X) → Contains zs w → f z < f w
    above w m = all_at (λ v. f z < f v) zs w (pairs_head (λ a b. f a < f b) z zs h) m

    go : (Contains zs x → Contains zs y → x ≡ y) → (z ≡ x) ⊎ Contains zs x → (z ≡ y) ⊎ Contains zs y → x ≡ y
    go rest (inl a) (inl b) = sym a ∙ b
    go rest (inl a) (inr b) = absurd (omega (arith, above y b, ap f a))
    go rest (inr a) (inl b) = absurd (omega (arith, above x a, ap f b))
    go rest (inr a) (inr b) = rest a b

-- a position in a list, and its member
pub at_in : {X : Type 0} (xs : List X) (i : ℕ) (x : X) → slice_get xs i ≡ Some x → Contains xs x
at_in {X} [] i x e = absurd (cc e)
at_in (y ∷ ys) zero x e = (0, omega arith, same_Some y x e)
at_in (y ∷ ys) (suc i) x e = there y x ys (at_in ys i x e)

pub in_at : {X : Type 0} (xs : List X) (x : X) → Contains xs x → (i : ℕ) × (slice_get xs i ≡ Some x)
in_at [] x c = absurd (not_in_none c)
in_at {X} (y ∷ ys) x c = go (in_at ys x) (in_cons y ys x c)
  where
    go : (Contains ys x → (i : ℕ) × (slice_get ys i ≡ Some x)) → (y ≡ x) ⊎ Contains ys x → (i : ℕ) × (slice_get (y ∷ ys) i ≡ Some x)
    go rest (inl e) = (0, ap Some e)
    go rest (inr m) = (suc (rest m).0, (rest m).1)

-- two members at their positions in a list that rises by a number
pub at_apart : {X : Type 0} (f : X → ℕ) (xs : List X) (i j : ℕ) (x y : X) → AllPairs (λ a b. f a < f b) xs
    → slice_get xs i ≡ Some x → slice_get xs j ≡ Some y → f x ≡ f y → i ≡ j
at_apart f [] i j x y h a b p = absurd (cc a)
at_apart f (z ∷ zs) zero zero x y h a b p = refl
at_apart f (z ∷ zs) zero (suc j) x y h a b p =
    absurd (omega (arith, all_at (λ v. f z < f v) zs y (pairs_head (λ a b. f a < f b) z zs h) (at_in zs j y b), ap f (same_Some z x a)))
at_apart f (z ∷ zs) (suc i) zero x y h a b p =
    absurd (omega (arith, all_at (λ v. f z < f v) zs x (pairs_head (λ a b. f a < f b) z zs h) (at_in zs i x a), ap f (same_Some z y b)))
at_apart f (z ∷ zs) (suc i) (suc j) x y h a b p = ap suc (at_apart f zs i j x y (pairs_tail (λ a b. f a < f b) z zs h) a b p)

-- members of the first n
pub in_take : {X : Type 0} (n : ℕ) (xs : List X) (x : X) → Contains (take n xs) x → Contains xs x
in_take zero xs x c = absurd (not_in_none c)
in_take (suc n) [] x c = absurd (not_in_none c)
in_take {X} (suc n) (y ∷ ys) x c = go (in_take n ys x) (in_cons y (take n ys) x c)
  where
    go : (Contains (take n ys) x → Contains ys x) → (y ≡ x) ⊎ Contains (take n ys) x → Contains (y ∷ ys) x
    go rest (inl e) = subst (λ z. Contains (y ∷ ys) z) e (here y ys)
    go rest (inr m) = there y x ys (rest m)
