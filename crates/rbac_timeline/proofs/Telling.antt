-- Tests of lists and of texts, by what they tell.
use Rattle.std.proofs.Common.{◌≡◌, suc, ◌⊎◌, ⊎_elim, inl, inr, Bool, true, false, not, ◌||◌, List, [], ◌∷◌, Decides, refl, sym, subst, arith}
use Rattle.std.specs.List.{Any, Contains, list_all, list_any}
use Rattle.std.proofs.lemmas.Bool.{and_from, and_parts}
use Rattle.std.proofs.lemmas.List.Folds.{Any-from_list_any, list_any-from_Any}
use Rattle.base_types.proofs.Quantifiers.{Any-weaker}
use Rattle.clouds.proofs.Quantified.{Any-cons_cases}

-- one of a list is its first or one of the others
pub Contains-cases : {X : Type 0} (x y : X) (xs : List X) → Contains (x ∷ xs) y → (x ≡ y) ⊎ Contains xs y
Contains-cases x y xs among = ⊎_elim
    (λ is. inl is)
    (λ later. inr (subst (λ z. Contains xs z) later.4 (later.0, later.2, later.3)))
    (Any-cons_cases (λ z. z ≡ y) x xs (among.0, y, among.1, among.2, refl))

pub Contains-first : {X : Type 0} (x : X) (xs : List X) → Contains (x ∷ xs) x
Contains-first x xs = (0, omega arith, refl)

pub Contains-later : {X : Type 0} (x y : X) (xs : List X) → Contains xs y → Contains (x ∷ xs) y
Contains-later x y xs among = (suc among.0, (let within = among.1 in omega arith), among.2)

module _ {X : Type 0} (test : X → Bool) (P : X → Type 0) (tells : (x : X) → Decides (test x) (P x)) where
  pub Decides-any : (xs : List X) → Decides (list_any test xs) (Any P xs)
  Decides-any xs = (
    (λ yes. Any-weaker (λ x. test x ≡ true) P xs (λ x is. (tells x).0 is) (Any-from_list_any test xs yes)),
    (λ any. list_any-from_Any test xs (Any-weaker P (λ x. test x ≡ true) xs (λ x holds. (tells x).1 holds) any)),
  )

  pub Decides-all : (xs : List X) → Decides (list_all test xs) ((x : X) → Contains xs x → P x)
  Decides-all [] = ((λ yes x among. let within = among.1 in absurd (omega arith)), (λ each. refl))
  Decides-all (x ∷ xs) = (
    (λ yes y among. let parts = and_parts (test x) (list_all test xs) yes in ⊎_elim
        (λ is. subst P is ((tells x).0 parts.0))
        (λ later. (Decides-all xs).0 parts.1 y later)
        (Contains-cases x y xs among)),
    (λ each. and_from (test x) (list_all test xs) ((tells x).1 (each x (Contains-first x xs))) ((Decides-all xs).1 (λ y among. each y (Contains-later x y xs among)))),
  )

-- where one holds the other does
pub Decides-implies : {P Q : Type 0} (a b : Bool) → Decides a P → Decides b Q → Decides (not a || b) (P → Q)
Decides-implies {P} {Q} true b tells_a tells_b = ((λ yes holds. tells_b.0 yes), (λ gives. tells_b.1 (gives (tells_a.0 refl))))
Decides-implies {P} {Q} false b tells_a tells_b = ((λ yes holds. let no : false ≡ true = tells_a.1 holds in cc), (λ gives. refl))

-- a flag
pub Decides-flag : (flag : Bool) → Decides flag (flag ≡ true)
Decides-flag flag = ((λ yes. yes), (λ yes. yes))

pub Decides-unset : (flag : Bool) → Decides (not flag) (flag ≡ false)
Decides-unset true = ((λ yes. let no : false ≡ true = yes in cc), (λ is. sym is))
Decides-unset false = ((λ yes. refl), (λ is. refl))
