-- Lists that are kept in part, or made from others.
use Rattle.std.proofs.Common.{◌≡◌, ℕ, ◌+◌, ◌<◌, ◌⊎◌, inl, inr, Bool, true, false, List, [], ◌∷◌, ◌++◌, append-nil, length, get_or, take, map, Option, Some, None, AllPairs, Contains, refl, sym, ap, ◌∙◌, subst, arith}
use Rattle.std.specs.List.{filter, filter_map, cons_option}
use Rattle.std.proofs.lemmas.List.{take_more}
use Rattle.std.proofs.lemmas.List.Elements.{All-filter, All-contains_itself, filter_passes, filter_map-append}
use Rattle.std.proofs.lemmas.Option.{same_Some}
use Rattle.history_model.proofs.Members.{not_in_none, here, there, in_cons, all_at, all_from, pairs_head, pairs_tail, pairs_cons}

-- what a filter keeps
pub filter_from : {X : Type 0} (p : X → Bool) (xs : List X) (x : X) → Contains (filter p xs) x → Contains xs x × (p x ≡ true)
filter_from p xs x c = (all_at (Contains xs) (filter p xs) x (All-filter p (Contains xs) xs (All-contains_itself xs)) c, all_at (λ z. p z ≡ true) (filter p xs) x (filter_passes p xs) c)

pub filter_has : {X : Type 0} (p : X → Bool) (xs : List X) (x : X) → Contains xs x → p x ≡ true → Contains (filter p xs) x
filter_has p [] x c e = absurd (not_in_none c)
filter_has {X} p (y ∷ ys) x c e = go (p y) refl (λ d. filter_has p ys x d e) (in_cons y ys x c)
  where
    go : (t : Bool) → p y ≡ t → (Contains ys x → Contains (filter p ys) x) → (y ≡ x) ⊎ Contains ys x → Contains (filter p (y ∷ ys)) x
    go true t rest (inl q) = rw t (subst (λ z. Contains (y ∷ filter p ys) z) q (here y (filter p ys)))
    go true t rest (inr d) = rw t (there y x (filter p ys) (rest d))
    go false t rest (inl q) = absurd (cc (t, e, q))
    go false t rest (inr d) = rw t (rest d)

-- what is made of the items that make something
pub made_from : {X Y : Type 0} (f : X → Option Y) (xs : List X) (y : Y) → Contains (filter_map f xs) y → (x : X) × Contains xs x × (f x ≡ Some y)
made_from f [] y c = absurd (not_in_none c)
made_from {X} {Y} f (x ∷ xs) y c = go (f x) refl (λ d. made_from f xs y d)
  where
    go : (o : Option Y) → f x ≡ o → (Contains (filter_map f xs) y → (z : X) × Contains xs z × (f z ≡ Some y)) → (z : X) × Contains (x ∷ xs) z × (f z ≡ Some y)
    go None e rest = let r = rest (rw e at c) in (r.0, there x r.0 xs r.1, r.2)
    go (Some w) e rest = at (in_cons w (filter_map f xs) y (rw e at c))
      where
        at : (w ≡ y) ⊎ Contains (filter_map f xs) y → (z : X) × Contains (x ∷ xs) z × (f z ≡ Some y)
        at (inl q) = (x, here x xs, e ∙ ap Some q)
        at (inr d) = let r = rest d in (r.0, there x r.0 xs r.1, r.2)

pub made_has : {X Y : Type 0} (f : X → Option Y) (xs : List X) (x : X) (y : Y) → Contains xs x → f x ≡ Some y → Contains (filter_map f xs) y
made_has f [] x y c e = absurd (not_in_none c)
made_has {X} {Y} f (z ∷ zs) x y c e = go (f z) refl (λ d. made_has f zs x y d e) (in_cons z zs x c)
  where
    go : (o : Option Y) → f z ≡ o → (Contains zs x → Contains (filter_map f zs) y) → (z ≡ x) ⊎ Contains zs x → Contains (filter_map f (z ∷ zs)) y
    go None t rest (inl q) = absurd (cc (t, e, q))
    go None t rest (inr d) = rw t (rest d)
    go (Some w) t rest (inl q) = rw t (subst (λ v. Contains (w ∷ filter_map f zs) v) (same_Some w y (sym t ∙ ap f q ∙ e)) (here w (filter_map f zs)))
    go (Some w) t rest (inr d) = rw t (there w y (filter_map f zs) (rest d))

-- what holds of each two items holds of what they make
pub made_pairs : {X Y : Type 0} (f : X → Option Y) (S : X → X → Type 0) (R : Y → Y → Type 0) (xs : List X) → AllPairs S xs
    → ((a b : X) (x y : Y) → Contains xs a → Contains xs b → S a b → f a ≡ Some x → f b ≡ Some y → R x y) → AllPairs R (filter_map f xs)
made_pairs f S R [] pairs h = λ i j d l m. absurd (omega arith)
made_pairs {X} {Y} f S R (x ∷ xs) pairs h =
    go (f x) refl (made_pairs f S R xs (pairs_tail S x xs pairs) (λ a b v w c d. h a b v w (there x a xs c) (there x b xs d)))
  where
    go : (o : Option Y) → f x ≡ o → AllPairs R (filter_map f xs) → AllPairs R (filter_map f (x ∷ xs))
    go None e rest = rw e rest
    go (Some y) e rest = rw e (pairs_cons R y (filter_map f xs) (all_from (R y) (filter_map f xs) (λ z c. at z (made_from f xs z c))) rest)
      where
        at : (z : Y) → (b : X) × Contains xs b × (f b ≡ Some z) → R y z
        at z (b, c, t) = h x b y z (here x xs) (there x b xs c) (all_at (S x) xs b (pairs_head S x xs pairs) c) e t

pub made_map : {X Y Z : Type 0} (f : Y → Option Z) (g : X → Y) (xs : List X) → filter_map f (map g xs) ≡ filter_map (λ x. f (g x)) xs
made_map f g [] = refl
made_map f g (x ∷ xs) = ap (cons_option (f (g x))) (made_map f g xs)

-- a list with a member isn't empty
pub first_of : {X : Type 0} (xs : List X) (x : X) → Contains xs x → (first : X) × (rest : List X) × (xs ≡ first ∷ rest)
first_of [] x c = absurd (not_in_none c)
first_of (y ∷ ys) x c = (y, ys, refl)

-- once nothing is left, all is made
pub made_all : {X Y : Type 0} (f : X → Option Y) (made : List Y) (rest all : List X) → rest ≡ [] → made ++ filter_map f rest ≡ filter_map f all → made ≡ filter_map f all
made_all f made rest all e h = sym (append-nil made) ∙ ap (λ l. made ++ filter_map f l) (sym e) ∙ h

-- what a list is mapped to
pub map_from : {X Y : Type 0} (f : X → Y) (xs : List X) (y : Y) → Contains (map f xs) y → (x : X) × Contains xs x × (f x ≡ y)
map_from f [] y c = absurd (not_in_none c)
map_from {X} {Y} f (x ∷ xs) y c = go (λ d. map_from f xs y d) (in_cons (f x) (map f xs) y c)
  where
    go : (Contains (map f xs) y → (z : X) × Contains xs z × (f z ≡ y)) → (f x ≡ y) ⊎ Contains (map f xs) y → (z : X) × Contains (x ∷ xs) z × (f z ≡ y)
    go rest (inl e) = (x, here x xs, e)
    go rest (inr d) = let r = rest d in (r.0, there x r.0 xs r.1, r.2)

pub map_has : {X Y : Type 0} (f : X → Y) (xs : List X) (x : X) → Contains xs x → Contains (map f xs) (f x)
map_has f [] x c = absurd (not_in_none c)
map_has {X} {Y} f (z ∷ zs) x c = go (λ d. map_has f zs x d) (in_cons z zs x c)
  where
    go : (Contains zs x → Contains (map f zs) (f x)) → (z ≡ x) ⊎ Contains zs x → Contains (map f (z ∷ zs)) (f x)
    go rest (inl e) = subst (λ y. Contains (f z ∷ map f zs) y) (ap f e) (here (f z) (map f zs))
    go rest (inr d) = there (f z) (f x) (map f zs) (rest d)

pub pairs_map : {X Y : Type 0} (f : X → Y) (R : Y → Y → Type 0) (xs : List X) → AllPairs (λ a b. R (f a) (f b)) xs → AllPairs R (map f xs)
pairs_map f R [] pairs = λ i j d l m. absurd (omega arith)
pairs_map {X} {Y} f R (x ∷ xs) pairs =
    pairs_cons R (f x) (map f xs) (all_from (R (f x)) (map f xs) (λ y c. at y (map_from f xs y c))) (pairs_map f R xs (pairs_tail (λ a b. R (f a) (f b)) x xs pairs))
  where
    at : (y : Y) → (z : X) × Contains xs z × (f z ≡ y) → R (f x) y
    at y (z, c, e) = subst (R (f x)) e (all_at (λ z. R (f x) (f z)) xs z (pairs_head (λ a b. R (f a) (f b)) x xs pairs) c)

pub pairs_unmap : {X Y : Type 0} (f : X → Y) (R : Y → Y → Type 0) (xs : List X) → AllPairs R (map f xs) → AllPairs (λ a b. R (f a) (f b)) xs
pairs_unmap f R [] pairs = λ i j d l m. absurd (omega arith)
pairs_unmap f R (x ∷ xs) pairs =
    pairs_cons (λ a b. R (f a) (f b)) x xs (all_from (λ z. R (f x) (f z)) xs (λ z c. all_at (R (f x)) (map f xs) (f z) (pairs_head R (f x) (map f xs) pairs) (map_has f xs z c)))
    (pairs_unmap f R xs (pairs_tail R (f x) (map f xs) pairs))

-- one more item makes something, or nothing
pub made_one : {X Y : Type 0} (f : X → Option Y) (xs : List X) (i : ℕ) (x : X) (y : Y) (done : List Y) → i < length xs → x ≡ get_or xs i x → f x ≡ Some y → done ≡ filter_map f (take i xs) → done ++ y ∷ [] ≡ filter_map f (take (i + 1) xs)
made_one f xs i x y done l is e h =
    ap (λ l. l ++ y ∷ []) h ∙ ap (λ l. filter_map f (take i xs) ++ l) (sym (ap (λ o. cons_option o []) e) ∙ ap (λ z. filter_map f (z ∷ [])) is)
    ∙ sym (filter_map-append f (take i xs) (get_or xs i x ∷ [])) ∙ ap (filter_map f) (sym (take_more xs i x l))

pub made_none : {X Y : Type 0} (f : X → Option Y) (xs : List X) (i : ℕ) (x : X) (done : List Y) → i < length xs → x ≡ get_or xs i x → f x ≡ None → done ≡ filter_map f (take i xs) → done ≡ filter_map f (take (i + 1) xs)
made_none f xs i x done l is e h =
    h ∙ sym (append-nil (filter_map f (take i xs))) ∙ ap (λ l. filter_map f (take i xs) ++ l) (sym (ap (λ o. cons_option o []) e) ∙ ap (λ z. filter_map f (z ∷ [])) is)
    ∙ sym (filter_map-append f (take i xs) (get_or xs i x ∷ [])) ∙ ap (filter_map f) (sym (take_more xs i x l))
