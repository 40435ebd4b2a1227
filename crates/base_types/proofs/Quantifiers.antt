-- What holds of some element or of each element of a list, of a part of it, and of a list made from it.
use Rattle.std.proofs.Common.{◌≡◌, ℕ, zero, suc, ◌+◌, ◌<◌, List, [], ◌∷◌, length, get_or, map, take, refl, sym, ◌∙◌, subst, arith}
use Rattle.std.specs.List.{All, Any, Contains}
use Rattle.std.specs.List.Sorted.{IsPermutation}
use Rattle.std.proofs.lemmas.List.{get_or-take, get_or_default, length-take}
use Rattle.std.proofs.lemmas.List.Elements.{All-cons}
use Rattle.std.proofs.lemmas.List.Sorted.{Contains-permutation}

-- what holds of the first elements and of the next one holds of the first elements
pub All-fewer : {X : Type 0} (P : X → Type 0) (xs : List X) (i : ℕ) → i < length xs → All P (take (i + 1) xs) → All P (take i xs)
All-fewer P xs i within all = λ k d below.
    let before : k < i = omega (arith, length-take i xs) in
    let among : k < length (take (i + 1) xs) = omega (arith, length-take (i + 1) xs) in
    subst P (get_or-take (i + 1) xs k d (omega arith) ∙ sym (get_or-take i xs k d before)) (all k d among)

-- and of the next one
pub All-last : {X : Type 0} (P : X → Type 0) (xs : List X) (i : ℕ) (d : X) → i < length xs → All P (take (i + 1) xs) → P (get_or xs i d)
All-last P xs i d within all =
    let among : i < length (take (i + 1) xs) = omega (arith, length-take (i + 1) xs) in
    subst P (get_or-take (i + 1) xs i d (omega arith)) (all i d among)

pub All-unmap : {A B : Type 0} (f : A → B) (P : B → Type 0) (xs : List A) → All P (map f xs) → All (λ a. P (f a)) xs
All-unmap f P [] all = λ k d below. absurd (omega arith)
All-unmap f P (x ∷ xs) all = All-cons (λ a. P (f a)) x xs (all 0 (f x) (omega arith)) (All-unmap f P xs (λ k d below. all (suc k) d (omega arith)))

pub Any-at : {X : Type 0} (P : X → Type 0) (xs : List X) (k : ℕ) (d : X) → k < length xs → P (get_or xs k d) → Any P xs
Any-at P xs k d within holds = (k, get_or xs k d, within, get_or_default xs k (get_or xs k d) d within, holds)

pub Any-contains : {X : Type 0} (P : X → Type 0) (xs : List X) (x : X) → Contains xs x → P x → Any P xs
Any-contains P xs x among holds = (among.0, x, among.1, among.2, holds)

pub Any-weaker : {X : Type 0} (P Q : X → Type 0) (xs : List X) → ((x : X) → P x → Q x) → Any P xs → Any Q xs
Any-weaker P Q xs weaker any = (any.0, any.1, any.2, any.3, weaker any.1 any.4)

pub Any-permutation : {X : Type 0} (P : X → Type 0) (xs ys : List X) → IsPermutation xs ys → Any P xs → Any P ys
Any-permutation P xs ys same any = Any-contains P ys any.1 (Contains-permutation xs ys any.1 same (any.0, any.2, any.3)) any.4

-- in front of, and behind, the first element
pub Any-head : {X : Type 0} (P : X → Type 0) (x : X) (xs : List X) → P x → Any P (x ∷ xs)
Any-head P x xs holds = (0, x, omega arith, refl, holds)

pub Any-tail : {X : Type 0} (P : X → Type 0) (x : X) (xs : List X) → Any P xs → Any P (x ∷ xs)
Any-tail P x xs any = (suc any.0, any.1, (let within = any.2 in omega arith), any.3, any.4)

pub Any-map : {A B : Type 0} (f : A → B) (P : B → Type 0) (xs : List A) → Any (λ a. P (f a)) xs → Any P (map f xs)
Any-map {A} {B} f P xs any = go xs any.0 any.1 any.2 any.3 any.4
  where
    go : (xs : List A) (k : ℕ) (x : A) → k < length xs → get_or xs k x ≡ x → P (f x) → Any P (map f xs)
    go [] k x within is holds = absurd (omega arith)
    go (a ∷ rest) zero x within is holds = Any-head P (f a) (map f rest) (subst (λ (a : A). P (f a)) (sym is) holds)
    go (a ∷ rest) (suc k) x within is holds = Any-tail P (f a) (map f rest) (go rest k x (omega arith) is holds)

pub Any-unmap : {A B : Type 0} (f : A → B) (P : B → Type 0) (xs : List A) → Any P (map f xs) → Any (λ a. P (f a)) xs
Any-unmap {A} {B} f P xs any = go xs any.0 any.1 any.2 any.3 any.4
  where
    go : (xs : List A) (k : ℕ) (x : B) → k < length (map f xs) → get_or (map f xs) k x ≡ x → P x → Any (λ a. P (f a)) xs
    go [] k x within is holds = absurd (omega arith)
    go (a ∷ rest) zero x within is holds = Any-head (λ a. P (f a)) a rest (subst P (sym is) holds)
    go (a ∷ rest) (suc k) x within is holds = Any-tail (λ a. P (f a)) a rest (go rest k x (omega arith) is holds)

-- some element of a front is one of the list
pub Any-untake : {X : Type 0} (P : X → Type 0) (n : ℕ) (xs : List X) → Any P (take n xs) → Any P xs
Any-untake P n xs any =
    let among : any.0 < length xs = (let within = any.2 in omega (arith, length-take n xs)) in
    let front : any.0 < n = (let within = any.2 in omega (arith, length-take n xs)) in
    (any.0, any.1, among, sym (get_or-take n xs any.0 any.1 front) ∙ any.3, any.4)

-- some element of a shorter front is one of a longer front
pub Any-longer : {X : Type 0} (P : X → Type 0) (i : ℕ) (xs : List X) → i < length xs → Any P (take i xs) → Any P (take (i + 1) xs)
Any-longer P i xs within any =
    let front : any.0 < i = (let among = any.2 in omega (arith, length-take i xs)) in
    let among : any.0 < length (take (i + 1) xs) = omega (arith, length-take (i + 1) xs) in
    (any.0, any.1, among, get_or-take (i + 1) xs any.0 any.1 (omega arith) ∙ sym (get_or-take i xs any.0 any.1 front) ∙ any.3, any.4)

-- the last of a front
pub Any-last : {X : Type 0} (P : X → Type 0) (i : ℕ) (xs : List X) (d : X) → i < length xs → P (get_or xs i d) → Any P (take (i + 1) xs)
Any-last P i xs d within holds =
    let among : i < length (take (i + 1) xs) = omega (arith, length-take (i + 1) xs) in
    Any-at P (take (i + 1) xs) i d among (subst P (sym (get_or-take (i + 1) xs i d (omega arith))) holds)

-- no element fits where each fails
pub none_from_all : {X : Type 0} (P : X → Type 0) (xs : List X) → All (λ x. P x → ⊥) xs → Any P xs → ⊥
none_from_all P xs all any = all any.0 any.1 any.2 (subst P (sym any.3) any.4)
