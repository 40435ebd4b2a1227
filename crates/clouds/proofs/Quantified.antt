-- What holds of some element of lists that are joined or mapped.
use Rattle.std.proofs.Common.{◌≡◌, ℕ, zero, suc, ◌<◌, ◌⊎◌, ⊎_elim, inl, inr, Bool, true, false, List, [], ◌∷◌, ◌++◌, length, get_or, refl, sym, subst, arith}
use Rattle.std.specs.Bool.{Decides, MatchBool}
use Rattle.std.specs.List.{AllWithin, Any, HoldsAt, flat_map}
use Rattle.std.proofs.lemmas.List.Elements.{Contains-append_cases, Contains-append_left, Contains-append_right}
use Rattle.base_types.proofs.Quantifiers.{Any-at, Any-contains, Any-head, Any-tail}

pub Any-append_left : {X : Type 0} (P : X → Type 0) (xs ys : List X) → Any P xs → Any P (xs ++ ys)
Any-append_left P xs ys any = Any-contains P (xs ++ ys) any.1 (Contains-append_left xs ys any.1 (any.0, any.2, any.3)) any.4

pub Any-append_right : {X : Type 0} (P : X → Type 0) (xs ys : List X) → Any P ys → Any P (xs ++ ys)
Any-append_right P xs ys any = Any-contains P (xs ++ ys) any.1 (Contains-append_right xs ys any.1 (any.0, any.2, any.3)) any.4

pub Any-append_cases : {X : Type 0} (P : X → Type 0) (xs ys : List X) → Any P (xs ++ ys) → Any P xs ⊎ Any P ys
Any-append_cases P xs ys any = ⊎_elim
    (λ left. inl (Any-contains P xs any.1 left any.4))
    (λ right. inr (Any-contains P ys any.1 right any.4))
    (Contains-append_cases xs ys any.1 (any.0, any.2, any.3))

-- the first element, or one of the others
pub Any-cons_cases : {X : Type 0} (P : X → Type 0) (x : X) (xs : List X) → Any P (x ∷ xs) → P x ⊎ Any P xs
Any-cons_cases {X} P x xs any = go any.0 any.1 any.2 any.3 any.4
  where
    go : (k : ℕ) (y : X) → k < length (x ∷ xs) → get_or (x ∷ xs) k y ≡ y → P y → P x ⊎ Any P xs
    go zero y within is holds = inl (subst P (sym is) holds)
    go (suc k) y within is holds = inr (k, y, omega arith, is, holds)

pub Any-joined : {X : Type 0} (P : X → Type 0) (xss : List (List X)) → Any (λ xs. Any P xs) xss → Any P (flat_map (λ xs. xs) xss)
Any-joined P [] any = let within = any.2 in absurd (omega arith)
Any-joined P (xs ∷ xss) any = ⊎_elim
    (λ first. Any-append_left P xs (flat_map (λ xs. xs) xss) first)
    (λ later. Any-append_right P xs (flat_map (λ xs. xs) xss) (Any-joined P xss later))
    (Any-cons_cases (λ xs. Any P xs) xs xss any)

pub Any-parted : {X : Type 0} (P : X → Type 0) (xss : List (List X)) → Any P (flat_map (λ xs. xs) xss) → Any (λ xs. Any P xs) xss
Any-parted P [] any = let within = any.2 in absurd (omega arith)
Any-parted P (xs ∷ xss) any = ⊎_elim
    (λ first. Any-head (λ xs. Any P xs) xs xss first)
    (λ later. Any-tail (λ xs. Any P xs) xs xss (Any-parted P xss later))
    (Any-append_cases P xs (flat_map (λ xs. xs) xss) any)

-- whether some element was found of which it holds
pub any_decides : {X : Type 0} (P : X → Type 0) (r : Bool) (xs : List X)
    → MatchBool r ((k : ℕ) × (k < length xs) × HoldsAt P xs k) (AllWithin (λ x. P x → ⊥) xs 0 (length xs)) → Decides r (Any P xs)
any_decides P true xs told = (λ is. found P xs told.0 told.1 told.2, λ any. refl)
  where
    found : {X : Type 0} (P : X → Type 0) (xs : List X) (k : ℕ) → k < length xs → HoldsAt P xs k → Any P xs
    found P [] k within holds = absurd (omega arith)
    found P (x ∷ xs) k within holds = Any-at P (x ∷ xs) k x within (holds x)
any_decides P false xs told = (λ is. absurd (cc), λ any. absurd (told any.0 any.1 (omega arith) any.2 (subst P (sym any.3) any.4)))
