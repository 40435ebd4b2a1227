-- A list that has just what the items of another list give.
use Rattle.std.proofs.Common.{◌≡◌, ℕ, ◌+◌, ◌<◌, ◌≤◌, ⊎_elim, List, [], ◌∷◌, ◌++◌, length, get_or, take, sym, ◌∙◌, subst, ap, append_assoc}
use Rattle.std.specs.List.{Contains}
use Rattle.std.proofs.lemmas.List.{take_all, take_more}
use Rattle.std.proofs.lemmas.List.Elements.{Contains-append_left, Contains-push, Contains-push_cases}
use Rattle.base_types.proofs.Quantifiers.{Any-head}
use Rattle.clouds.proofs.Quantified.{Any-append_left, Any-append_right}
use Rattle.rbac_timeline.specs.Unsure.{AreGathered}

-- the items so far, and one more
pub front_more : {X : Type 0} (xs : List X) (i : ℕ) (x : X) → i < length xs → x ≡ get_or xs i x → take (i + 1) xs ≡ take i xs ++ x ∷ []
front_more {X} xs i x within is = take_more xs i x within ∙ ap (λ (y : X). take i xs ++ y ∷ []) (sym is)

pub behind_more : {X : Type 0} (before xs : List X) (i : ℕ) (x : X) → i < length xs → x ≡ get_or xs i x → (before ++ take i xs) ++ x ∷ [] ≡ before ++ take (i + 1) xs
behind_more before xs i x within is = append_assoc before (take i xs) (x ∷ []) ∙ ap (λ l. before ++ l) (sym (front_more xs i x within is))

pub AreGathered-all : {X Y : Type 0} (gives : X → Y → Type 0) (xs : List X) (i : ℕ) (ys : List Y) → length xs ≤ i → AreGathered gives (take i xs) ys → AreGathered gives xs ys
AreGathered-all gives xs i ys end are = subst (λ l. AreGathered gives l ys) (take_all i xs end) are

module _ {X Y : Type 0} (gives : X → Y → Type 0) (xs : List X) (x : X) (ys : List Y) (are : AreGathered gives xs ys) where
  more : (y : Y) → gives x y → ((z : Y) → gives x z → z ≡ y) → AreGathered gives (xs ++ x ∷ []) (ys ++ y ∷ [])
  more y given only = record {
    among = λ z there. ⊎_elim
        (λ before. Any-append_left (λ a. gives a z) xs (x ∷ []) (are.among z before))
        (λ is. Any-append_right (λ a. gives a z) xs (x ∷ []) (Any-head (λ a. gives a z) x [] (subst (gives x) is given)))
        (Contains-push_cases ys y z there);
    full = λ a z there given_z. ⊎_elim
        (λ before. Contains-append_left ys (y ∷ []) z (are.full a z before given_z))
        (λ is. subst (λ b. Contains (ys ++ y ∷ []) b) (sym (only z (subst (λ b. gives b z) (sym is) given_z))) (Contains-push ys y))
        (Contains-push_cases xs x a there);
  }

  skip : ((y : Y) → gives x y → ⊥) → AreGathered gives (xs ++ x ∷ []) ys
  skip none = record {
    among = λ z there. Any-append_left (λ a. gives a z) xs (x ∷ []) (are.among z there);
    full = λ a z there given_z. ⊎_elim
        (λ before. are.full a z before given_z)
        (λ is. absurd (none z (subst (λ b. gives b z) (sym is) given_z)))
        (Contains-push_cases xs x a there);
  }

pub AreGathered-more : {X Y : Type 0} (gives : X → Y → Type 0) (xs : List X) (i : ℕ) (x : X) (ys : List Y) (y : Y) → i < length xs → x ≡ get_or xs i x → AreGathered gives (take i xs) ys
    → gives x y → ((z : Y) → gives x z → z ≡ y) → AreGathered gives (take (i + 1) xs) (ys ++ y ∷ [])
AreGathered-more gives xs i x ys y within is are given only = subst (λ l. AreGathered gives l (ys ++ y ∷ [])) (sym (front_more xs i x within is)) (more gives (take i xs) x ys are y given only)

pub AreGathered-skip : {X Y : Type 0} (gives : X → Y → Type 0) (xs : List X) (i : ℕ) (x : X) (ys : List Y) → i < length xs → x ≡ get_or xs i x → AreGathered gives (take i xs) ys
    → ((y : Y) → gives x y → ⊥) → AreGathered gives (take (i + 1) xs) ys
AreGathered-skip gives xs i x ys within is are none = subst (λ l. AreGathered gives l ys) (sym (front_more xs i x within is)) (skip gives (take i xs) x ys are none)
