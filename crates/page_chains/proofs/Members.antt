-- What holds of each item of a list, which items it has, and how many others these can be.
use Rattle.std.proofs.Common.{◌≡◌, ◌≢◌, suc, ◌≤◌, ◌⊎◌, inl, inr, Bool, true, false, List, [], ◌∷◌, ◌++◌, length, Option, Some, None, refl, sym, ap, subst, ◌∙◌, arith}
use Rattle.std.specs.Prelude.{⊤, All, Contains, cond, filter}
use Rattle.std.specs.List.{filter_map, flat_map, cons_option}
use Rattle.std.proofs.lemmas.List.Elements.{All-nil, All-cons}

-- P holds of each, and of what there is
abbrev pub Each : {X : Type 0} → (X → Type 0) → List X → Type 0
Each P [] = ⊤
Each P (x ∷ xs) = P x × Each P xs

abbrev pub Maybe : {X : Type 0} → (X → Type 0) → Option X → Type 0
Maybe P None = ⊤
Maybe P (Some x) = P x

pub all_of : {X : Type 0} (P : X → Type 0) (xs : List X) → Each P xs → All P xs
all_of P [] h = All-nil P
all_of P (x ∷ xs) h = All-cons P x xs h.0 (all_of P xs h.1)

pub each_of : {X : Type 0} (P : X → Type 0) (xs : List X) → All P xs → Each P xs
each_of P [] h = tt
each_of P (x ∷ xs) h = (h 0 x (omega arith), each_of P xs (λ k d lt. h (suc k) d (omega arith)))

pub each_mapped : {X : Type 0} (P Q : X → Type 0) → ((x : X) → P x → Q x) → (xs : List X) → Each P xs → Each Q xs
each_mapped P Q f [] h = tt
each_mapped P Q f (x ∷ xs) h = (f x h.0, each_mapped P Q f xs h.1)

pub each_append : {X : Type 0} (P : X → Type 0) (xs ys : List X) → Each P xs → Each P ys → Each P (xs ++ ys)
each_append P [] ys h k = k
each_append P (x ∷ xs) ys h k = (h.0, each_append P xs ys h.1 k)

each_cons : {X : Type 0} (P : X → Type 0) (o : Option X) (xs : List X) → Maybe P o → Each P xs → Each P (cons_option o xs)
each_cons P None xs p h = h
each_cons P (Some x) xs p h = (p, h)

pub each_made : {X Y : Type 0} (P : X → Type 0) (Q : Y → Type 0) (f : X → Option Y) → ((x : X) → P x → Maybe Q (f x)) → (xs : List X) → Each P xs → Each Q (filter_map f xs)
each_made P Q f made [] h = tt
each_made P Q f made (x ∷ xs) h = each_cons Q (f x) (filter_map f xs) (made x h.0) (each_made P Q f made xs h.1)

pub each_kept : {X : Type 0} (P : X → Type 0) (p : X → Bool) (xs : List X) → Each P xs → Each (λ x. P x × (p x ≡ true)) (filter p xs)
each_kept P p [] h = tt
each_kept P p (x ∷ xs) h = by_test (each_kept P p xs h.1) (p x) refl
  where
    by_test : Each (λ x. P x × (p x ≡ true)) (filter p xs) → (b : Bool) → p x ≡ b → Each (λ x. P x × (p x ≡ true)) (cond b (x ∷ filter p xs) (filter p xs))
    by_test rest true e = ((h.0, e), rest)
    by_test rest false e = rest

pub each_flat : {X Y : Type 0} (Q : Y → Type 0) (f : X → List Y) (xs : List X) → Each (λ x. Each Q (f x)) xs → Each Q (flat_map f xs)
each_flat Q f [] h = tt
each_flat Q f (x ∷ xs) h = each_append Q (f x) (flat_map f xs) h.0 (each_flat Q f xs h.1)

pub anything : {X : Type 0} (xs : List X) → Each (λ _. ⊤) xs
anything [] = tt
anything (x ∷ xs) = (tt, anything xs)

-- x is one of these
abbrev pub Among : {X : Type 0} → X → List X → Type 0
Among x [] = ⊥
Among x (y ∷ ys) = (y ≡ x) ⊎ Among x ys

among_later : {X : Type 0} (y : X) (ys xs : List X) → Each (λ x. Among x ys) xs → Each (λ x. Among x (y ∷ ys)) xs
among_later y ys [] h = tt
among_later y ys (x ∷ xs) h = (inr h.0, among_later y ys xs h.1)

pub among_itself : {X : Type 0} (xs : List X) → Each (λ x. Among x xs) xs
among_itself [] = tt
among_itself (x ∷ xs) = (inl refl, among_later x xs xs (among_itself xs))

pub holds_of : {X : Type 0} (P : X → Type 0) (xs : List X) (x : X) → Each P xs → Among x xs → P x
holds_of P [] x h m = absurd m
holds_of P (y ∷ ys) x h (inl e) = subst P e h.0
holds_of P (y ∷ ys) x h (inr m) = holds_of P ys x h.1 m

pub among_kept : {X : Type 0} (p : X → Bool) (xs : List X) (x : X) → p x ≡ true → Among x xs → Among x (filter p xs)
among_kept p [] x e m = m
among_kept p (y ∷ ys) x e (inl is) = rw (ap p is ∙ e) (inl is)
among_kept p (y ∷ ys) x e (inr m) = by_test (among_kept p ys x e m) (p y)
  where
    by_test : Among x (filter p ys) → (b : Bool) → Among x (cond b (y ∷ filter p ys) (filter p ys))
    by_test rest true = inr rest
    by_test rest false = rest

pub among_front : {X : Type 0} (xs ys : List X) (x : X) → Among x xs → Among x (xs ++ ys)
among_front [] ys x m = absurd m
among_front (z ∷ xs) ys x (inl e) = inl e
among_front (z ∷ xs) ys x (inr m) = inr (among_front xs ys x m)

pub among_end : {X : Type 0} (xs : List X) (x : X) → Among x (xs ++ x ∷ [])
among_end [] x = inl refl
among_end (z ∷ xs) x = inr (among_end xs x)

pub contains_of : {X : Type 0} (x : X) (ys : List X) → Among x ys → Contains ys x
contains_of x [] m = absurd m
contains_of x (y ∷ ys) (inl e) = (0, omega arith, e)
contains_of x (y ∷ ys) (inr m) = let later = contains_of x ys m in (suc later.0, omega (arith, later.1), later.2)

-- a list without one of its items
dropped : {X : Type 0} (x : X) (ys : List X) → Among x ys → List X
dropped x [] m = []
dropped x (y ∷ ys) (inl e) = ys
dropped x (y ∷ ys) (inr m) = y ∷ dropped x ys m

shorter : {X : Type 0} (x : X) (ys : List X) (m : Among x ys) → length ys ≡ suc (length (dropped x ys m))
unfolding dropped
shorter x [] m = absurd m
shorter x (y ∷ ys) (inl e) = refl
shorter x (y ∷ ys) (inr m) = ap suc (shorter x ys m)

still : {X : Type 0} (x z : X) (ys : List X) (m : Among x ys) → x ≢ z → Among z ys → Among z (dropped x ys m)
unfolding dropped
still x z [] m apart n = n
still x z (y ∷ ys) (inl e) apart (inl e') = absurd (apart (sym e ∙ e'))
still x z (y ∷ ys) (inl e) apart (inr n) = n
still x z (y ∷ ys) (inr m) apart (inl e') = inl e'
still x z (y ∷ ys) (inr m) apart (inr n) = inr (still x z ys m apart n)

-- no two of these are equal
abbrev pub AreApart : {X : Type 0} → List X → Type 0
AreApart [] = ⊤
AreApart (x ∷ xs) = Each (λ y. x ≢ y) xs × AreApart xs

still_each : {X : Type 0} (x : X) (ys : List X) (m : Among x ys) (xs : List X) → Each (λ y. x ≢ y) xs → Each (λ z. Among z ys) xs → Each (λ z. Among z (dropped x ys m)) xs
still_each x ys m [] apart h = tt
still_each x ys m (z ∷ zs) apart h = (still x z ys m apart.0 h.0, still_each x ys m zs apart.1 h.1)

-- so many different items a list can have
pub few_apart : {X : Type 0} (xs ys : List X) → AreApart xs → Each (λ x. Among x ys) xs → length xs ≤ length ys
few_apart [] ys apart h = omega arith
few_apart (x ∷ xs) ys apart h =
    let fewer = few_apart xs (dropped x ys h.0) apart.1 (still_each x ys h.0 xs apart.0 h.1) in
    omega (arith, shorter x ys h.0)
