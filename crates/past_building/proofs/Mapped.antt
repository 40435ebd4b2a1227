-- Members of mapped lists, and pairs of lists that are joined.
use Rattle.std.proofs.Common.{◌≡◌, ℕ, zero, suc, ◌+◌, ◌<◌, ◌⊎◌, ⊎_elim, List, [], ◌∷◌, ◌++◌, length, get_or, take, map, refl, sym, ap, ◌∙◌, subst, arith, true, false, true≢false}
use Rattle.std.specs.List.{AllZip, find}
use Rattle.std.specs.Prelude.{Some, Bool, IsTrue, All, AllPairs, Any, Contains}
use Rattle.history_model.proofs.Members.{here, there, in_cons, all_from, all_at, pairs_head, pairs_tail, pairs_cons, not_in_none}
use Rattle.std.proofs.lemmas.List.Elements.{Contains-push_cases}
use Rattle.std.proofs.lemmas.List.{take_more}
use Rattle.std.proofs.lemmas.Option.{same_Some}

pub no_true : IsTrue false → ⊥
no_true t = true≢false (sym t)

-- an item behind others
pub pairs_push : {X : Type 0} (R : X → X → Type 0) (xs : List X) (y : X) → AllPairs R xs → All (λ x. R x y) xs → AllPairs R (xs ++ y ∷ [])
pairs_push R [] y pairs all = pairs_cons R y [] (λ k d below. absurd (omega arith)) pairs
pairs_push R (x ∷ xs) y pairs all = pairs_cons R x (xs ++ y ∷ [])
    (all_from (R x) (xs ++ y ∷ []) (λ z among. ⊎_elim
    (λ before. all_at (R x) xs z (pairs_head R x xs pairs) before)
    (λ is. subst (R x) is (all_at (λ w. R w y) (x ∷ xs) x all (here x xs)))
    (Contains-push_cases xs y z among)))
    (pairs_push R xs y (pairs_tail R x xs pairs) (all_from (λ w. R w y) xs (λ z among. all_at (λ w. R w y) (x ∷ xs) z all (there x z xs among))))

pub any_in : {X : Type 0} (P : X → Type 0) (xs : List X) → Any P xs → (x : X) × Contains xs x × P x
any_in P xs any = (any.1, (any.0, any.2, any.3), any.4)

pub in_any : {X : Type 0} (P : X → Type 0) (xs : List X) (x : X) → Contains xs x → P x → Any P xs
in_any P xs x among holds = (among.0, x, among.1, among.2, holds)

pub joined : {X : Type 0} (xs ys zs : List X) → (xs ++ ys) ++ zs ≡ xs ++ (ys ++ zs)
joined [] ys zs = refl
joined (x ∷ xs) ys zs = ap (λ l. x ∷ l) (joined xs ys zs)

-- two lists, with one item more in each
pub zip_push : {A B : Type 0} (R : A → B → Type 0) (xs : List A) (ys : List B) (x : A) (y : B) → AllZip R xs ys → R x y → AllZip R (xs ++ x ∷ []) (ys ++ y ∷ [])
zip_push R [] [] x y zipped at = (at, zipped)
zip_push R [] (w ∷ ys) x y zipped at = absurd zipped
zip_push R (f ∷ xs) [] x y zipped at = absurd zipped
zip_push R (f ∷ xs) (w ∷ ys) x y zipped at = (zipped.0, zip_push R xs ys x y zipped.1 at)

-- the first item's partner
pub zip_left : {A B : Type 0} (R : A → B → Type 0) (xs : List A) (ys : List B) (y : B) → AllZip R xs ys → Contains ys y → (x : A) × Contains xs x × R x y
zip_left R [] [] y zipped among = absurd (not_in_none among)
zip_left R [] (w ∷ ys) y zipped among = absurd zipped
zip_left R (f ∷ xs) [] y zipped among = absurd zipped
zip_left R (f ∷ xs) (w ∷ ys) y zipped among = ⊎_elim
    (λ is. (f, here f xs, subst (R f) is zipped.0))
    (λ later. let found = zip_left R xs ys y zipped.1 later in (found.0, there f found.0 xs found.1, found.2))
    (in_cons w ys y among)

-- what a search finds is an item of the list
pub found_in : {X : Type 0} (test : X → Bool) (xs : List X) (x : X) → find test xs ≡ Some x → Contains xs x
found_in test [] x found = absurd (cc found)
found_in {X} test (y ∷ ys) x found = by (test y) refl (found_in test ys x)
  where
    by : (t : Bool) → test y ≡ t → (find test ys ≡ Some x → Contains ys x) → Contains (y ∷ ys) x
    by true is rest = let one : Some y ≡ Some x = rw is at found in subst (Contains (y ∷ ys)) (same_Some y x one) (here y ys)
    by false is rest = there y x ys (rest (rw is at found))

pub pairs_behind : {X : Type 0} (R : X → X → Type 0) (xs ys : List X) → AllPairs R (xs ++ ys) → AllPairs R ys
pairs_behind R [] ys pairs = pairs
pairs_behind R (x ∷ xs) ys pairs = pairs_behind R xs ys (pairs_tail R x (xs ++ ys) pairs)

pub map_twice : {A B C : Type 0} (f : B → C) (g : A → B) (xs : List A) → map f (map g xs) ≡ map (λ x. f (g x)) xs
map_twice f g [] = refl
map_twice f g (x ∷ xs) = ap (λ l. f (g x) ∷ l) (map_twice f g xs)

-- what comes before an item is related to it
pub before_in : {X : Type 0} (R : X → X → Type 0) (xs : List X) (i : ℕ) (y : X) → AllPairs R xs → i < length xs → get_or xs i y ≡ y → (x : X) → Contains (take i xs) x → R x y
before_in R [] i y pairs within is x among = absurd (omega arith)
before_in R (z ∷ xs) zero y pairs within is x among = absurd (not_in_none among)
before_in {X} R (z ∷ xs) (suc i) y pairs within is x among = ⊎_elim
    (λ same. subst (λ w. R w y) same (all_at (R z) xs y (pairs_head R z xs pairs) (i, omega arith, is)))
    (λ later. before_in R xs i y (pairs_tail R z xs pairs) (omega arith) is x later)
    (in_cons z (take i xs) x among)

-- the members of one more item's list
pub in_more : {X : Type 0} (xs : List X) (i : ℕ) (y : X) → i < length xs → get_or xs i y ≡ y → (x : X) → Contains (take (i + 1) xs) x → Contains (take i xs) x ⊎ (y ≡ x)
in_more xs i y within is x among = Contains-push_cases (take i xs) y x
    (subst (λ l. Contains l x) (take_more xs i y within ∙ ap (λ z. take i xs ++ z ∷ []) is) among)
