-- Lists that only grow, and lists in which nothing stands twice.
use Rattle.std.proofs.Common.{◌≡◌, ◌⊎◌, inl, inr, ℕ, zero, suc, ◌+◌, ◌≤◌, Bool, true, false, ◌||◌, List, [], ◌∷◌, ◌++◌, length, take, Some, slice_get, refl, sym, ap, ◌∙◌, arith, append_assoc, length-append}
use Rattle.std.specs.Bool.{Decides}
use Rattle.std.specs.List.{list_any}
use Rattle.std.proofs.lemmas.Bool.{false≢true}
use Rattle.std.proofs.lemmas.List.{append-nil, take-append-drop}
use Rattle.node_number.proofs.Growing.{slice_get-front}
use Rattle.node_pool.specs.Pooled.{AreDistinct}
use Rattle.node_pool.specs.Subtrees.{Begins}

pub Begins-refl : {X : Type 0} (xs : List X) → Begins xs xs
Begins-refl xs = ([], sym (append-nil xs))

pub Begins-snoc : {X : Type 0} (xs : List X) (x : X) → Begins xs (xs ++ x ∷ [])
Begins-snoc xs x = (x ∷ [], refl)

pub Begins-trans : {X : Type 0} (xs ys zs : List X) → Begins xs ys → Begins ys zs → Begins xs zs
Begins-trans xs ys zs p q = (p.0 ++ q.0, q.1 ∙ ap (λ l. l ++ q.0) p.1 ∙ append_assoc xs p.0 q.0)

pub Begins-longer : {X : Type 0} (xs ys : List X) → Begins xs ys → length xs ≤ length ys
Begins-longer xs ys p = omega (arith, ap length p.1, length-append xs p.0)

-- the front that a longer list had
pub Begins-take : {X : Type 0} (xs ys : List X) → Begins xs ys → take (length xs) ys ≡ xs
Begins-take xs ys p = ap (take (length xs)) p.1 ∙ seam xs p.0
  where
    seam : {X : Type 0} (xs more : List X) → take (length xs) (xs ++ more) ≡ xs
    seam [] more = refl
    seam (x ∷ xs) more = ap (λ l. x ∷ l) (seam xs more)

pub length-snoc : {X : Type 0} (xs : List X) (x : X) → length xs + 1 ≡ length (xs ++ x ∷ [])
length-snoc xs x = omega (arith, length-append xs (x ∷ []))

pub slice_get-Begins : {X : Type 0} (xs ys : List X) (k : ℕ) (x : X) → Begins xs ys → slice_get xs k ≡ Some x → slice_get ys k ≡ Some x
slice_get-Begins xs ys k x p e = ap (λ l. slice_get l k) p.1 ∙ slice_get-front xs p.0 k x e

-- what stands in a list and one more is in the list, or is the one more
snoc_cases : {X : Type 0} (xs : List X) (y : X) (i : ℕ) (x : X) → slice_get (xs ++ y ∷ []) i ≡ Some x → (slice_get xs i ≡ Some x) ⊎ ((i ≡ length xs) × (x ≡ y))
snoc_cases [] y zero x e = inr (refl, (cc))
snoc_cases [] y (suc i) x e = absurd (cc)
snoc_cases (z ∷ xs) y zero x e = inl e
snoc_cases (z ∷ xs) y (suc i) x e = more (snoc_cases xs y i x e)
  where
    more : (slice_get xs i ≡ Some x) ⊎ ((i ≡ length xs) × (x ≡ y)) → (slice_get xs i ≡ Some x) ⊎ ((suc i ≡ suc (length xs)) × (x ≡ y))
    more (inl there) = inl there
    more (inr last) = inr (ap suc last.0, last.1)

-- a list that doesn't pass a test has no element that does
none_passes : {X : Type 0} (test : X → Bool) (xs : List X) (i : ℕ) (x : X) → list_any test xs ≡ false → slice_get xs i ≡ Some x → test x ≡ true → ⊥
none_passes test [] i x none at is = absurd (cc)
none_passes test (y ∷ xs) zero x none at is =
    let same : y ≡ x = cc in
    let yes : test y ≡ true = ap test same ∙ is in
    false≢true (sym none ∙ ap (λ b. b || list_any test xs) yes)
none_passes test (y ∷ xs) (suc i) x none at is = go (test y) none (λ h. none_passes test xs i x h at is)
  where
    go : (b : Bool) → (b || list_any test xs) ≡ false → (list_any test xs ≡ false → ⊥) → ⊥
    go true h rest = false≢true (sym h)
    go false h rest = rest h

pub AreDistinct-snoc : {X : Type 0} (eq : X → X → Bool) (decides : (x y : X) → Decides (eq x y) (x ≡ y)) (xs : List X) (y : X)
    → AreDistinct xs → list_any (eq y) xs ≡ false → AreDistinct (xs ++ y ∷ [])
AreDistinct-snoc {X} eq decides xs y distinct absent = λ i j x at_i at_j. go i j x (snoc_cases xs y i x at_i) (snoc_cases xs y j x at_j)
  where
    new : (i : ℕ) (x : X) → slice_get xs i ≡ Some x → x ≡ y → ⊥
    new i x at is = none_passes (eq y) xs i x absent at ((decides y x).1 (sym is))

    go : (i j : ℕ) (x : X) → (slice_get xs i ≡ Some x) ⊎ ((i ≡ length xs) × (x ≡ y)) → (slice_get xs j ≡ Some x) ⊎ ((j ≡ length xs) × (x ≡ y)) → i ≡ j
    go i j x (inl a) (inl b) = distinct i j x a b
    go i j x (inl a) (inr b) = absurd (new i x a b.1)
    go i j x (inr a) (inl b) = absurd (new j x b a.1)
    go i j x (inr a) (inr b) = a.0 ∙ sym b.0

pub AreDistinct-take : {X : Type 0} (n : ℕ) (xs : List X) → AreDistinct xs → AreDistinct (take n xs)
AreDistinct-take {X} n xs distinct = λ i j x a b. distinct i j x (whole i x a) (whole j x b)
  where
    whole : (i : ℕ) (x : X) → slice_get (take n xs) i ≡ Some x → slice_get xs i ≡ Some x
    whole i x at = slice_get-Begins (take n xs) xs i x (_, sym (take-append-drop n xs)) at

pub AreDistinct-nil : {X : Type 0} → AreDistinct {X = X} []
AreDistinct-nil = λ i j x a b. absurd (cc)
