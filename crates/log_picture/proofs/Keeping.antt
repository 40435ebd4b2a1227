-- How many every so manyth item of a list are.
use Rattle.std.proofs.Common.{◌≡◌, ℕ, zero, suc, ◌+◌, ◌*◌, ◌<◌, ◌≤◌, ⊎_elim, List, [], ◌∷◌, length, refl, ap, subst, sym, ◌∙◌, arith}
use Rattle.std.specs.Prelude.{◌-◌, ◌/◌, ◌%◌, ◌==◌, max, if◌then◌else◌}
use Rattle.std.proofs.Math.Nat.{add-mul, div-eq_of_lt, div-le_self, div-mul-le_self, lt-div-mul-add, mod-one, mul-add, mul-le-mul_left, mul-le-mul_right, mul-one, mul-suc, one-mul, suc-mul}
use Rattle.std.proofs.lemmas.Bool.{cases_lt, ne_eqb}
use Rattle.std.proofs.lemmas.Nat.{mod-mul-add}
use Rattle.log_picture.specs.Limits.{IsSpread, each_from, spread, step_for}

-- so many are taken that with a step for each, and so many before the first, they span the list and no more
abbrev Spans : ℕ → ℕ → ℕ → ℕ → Type 0
Spans k ahead all taken = (k * taken ≤ all + (k - 1 - ahead)) × (all ≤ k * taken + ahead)

spans_taken : (k all taken : ℕ) → 0 < k → Spans k (k - 1) all taken → Spans k 0 (suc all) (suc taken)
spans_taken k all taken some (least, most) =
    let e = mul-suc k taken in
    (omega (arith, e, least, some), omega (arith, e, most, some))

spans_passed : (k ahead all taken : ℕ) → suc ahead < k → Spans k ahead all taken → Spans k (suc ahead) (suc all) taken
spans_passed k ahead all taken within (least, most) = (omega (arith, least, within), omega (arith, most, within))

-- the remainder of a position that is so many before a multiple
rest_at : (k m ahead position : ℕ) → suc ahead < k → position + suc ahead ≡ suc m * k → position % k ≡ k - suc ahead
rest_at k m ahead position within at =
    let e = suc-mul m k in
    let is : position ≡ m * k + (k - suc ahead) = omega (arith, e, at, within) in
    ap (λ n. n % k) is ∙ mod-mul-add m k (k - suc ahead) (omega (arith, within))

if_true : {A : Type 0} (n : ℕ) (x y : A) → n ≡ 0 → (if n == 0 then x else y) ≡ x
if_true n x y e = rw e refl

not_none : (n : ℕ) → 0 < n → n ≡ 0 → ⊥
not_none n l e = omega (arith, l, e)

if_false : {A : Type 0} (n : ℕ) (x y : A) → 0 < n → (if n == 0 then x else y) ≡ y
if_false n x y l = let e = ne_eqb n 0 (not_none n l) in rw e refl

spans : {A : Type 0} (k m ahead position : ℕ) (xs : List A) → ahead < k → position + ahead ≡ m * k → Spans k ahead (length xs) (length (each_from position k xs))
spans k m ahead position [] within at = (omega (arith, within), omega (arith, within))
spans k m zero position (x ∷ xs) within at =
    let e = suc-mul m k in
    let none : position % k ≡ 0 = ap (λ n. n % k) (let is : position ≡ m * k + 0 = omega (arith, at) in is) ∙ mod-mul-add m k 0 within in
    let next = spans k (suc m) (k - 1) (position + 1) xs (omega (arith, within)) (omega (arith, e, at, within)) in
    subst (λ l. Spans k 0 (length (x ∷ xs)) (length l)) (sym (if_true (position % k) (x ∷ each_from (position + 1) k xs) (each_from (position + 1) k xs) none))
    (spans_taken k (length xs) (length (each_from (position + 1) k xs)) within next)
spans k zero (suc ahead) position (x ∷ xs) within at = absurd (omega (arith, at))
spans k (suc m) (suc ahead) position (x ∷ xs) within at =
    let some : 0 < position % k = let e = rest_at k m ahead position within at in omega (arith, e, within) in
    let next = spans k (suc m) ahead (position + 1) xs (omega (arith, within)) (omega (arith, at)) in
    subst (λ l. Spans k (suc ahead) (length (x ∷ xs)) (length l)) (sym (if_false (position % k) (x ∷ each_from (position + 1) k xs) (each_from (position + 1) k xs) some))
    (spans_passed k ahead (length xs) (length (each_from (position + 1) k xs)) within next)

all_taken : {A : Type 0} (position : ℕ) (xs : List A) → each_from position 1 xs ≡ xs
all_taken position [] = refl
all_taken position (x ∷ xs) =
    if_true (position % 1) (x ∷ each_from (position + 1) 1 xs) (each_from (position + 1) 1 xs) (mod-one position)
    ∙ ap (λ l. x ∷ l) (all_taken (position + 1) xs)

step_is : (limit n : ℕ) → 0 < limit → step_for limit n ≡ (n - 1) / limit + 1
step_is limit n some = let e : max 1 limit ≡ limit = omega (arith, some) in ap (λ m. (n - 1) / m + 1) e

step_within : (limit n : ℕ) → 0 < limit → n ≤ limit → step_for limit n ≡ 1
step_within limit n some within =
    let below : n - 1 < limit = omega (arith, some, within) in
    step_is limit n some ∙ ap (λ q. q + 1) (div-eq_of_lt below)

fits : (limit n q : ℕ) → n - 1 < q * limit + limit → n ≤ (q + 1) * limit
fits limit n q below = let e : (q + 1) * limit ≡ q * limit + limit = add-mul q 1 limit ∙ ap (λ m. q * limit + m) (one-mul limit) in omega (arith, below, e)

few : (k limit all taken : ℕ) → 0 < k → all ≤ k * limit → k * taken ≤ all + (k - 1 - 0) → taken ≤ limit
few k limit all taken some within least = ⊎_elim
    (λ over. absurd (
    let more = mul-le-mul_left {m = limit + 1} {n = taken} k (omega (arith, over)) in
    let e : k * (limit + 1) ≡ k * limit + k = mul-add k limit 1 ∙ ap (λ n. k * limit + n) (mul-one k) in
    omega (arith, more, e, within, least, some)))
    (λ kept. omega (arith, kept))
    (cases_lt limit taken)

more : (k limit all taken : ℕ) → k * limit < all → all ≤ k * taken + 0 → limit < taken
more k limit all taken beyond most = ⊎_elim
    (λ over. over)
    (λ kept. absurd (let least = mul-le-mul_left {m = taken} {n = limit} k (omega (arith, kept)) in omega (arith, least, beyond, most)))
    (cases_lt limit taken)

beyond : (k limit n : ℕ) → 0 < k → k ≤ (n - 1) / limit → k * limit < n
beyond k limit n some within =
    let times = mul-le-mul_right limit within in
    let whole = div-mul-le_self (n - 1) limit in
    let below = div-le_self (n - 1) limit in
    omega (arith, times, whole, below, within, some)

pub keeps : {A : Type 0} (limit : ℕ) (list : List A) → 0 < limit → IsSpread limit list
unfolding spread
keeps limit list some = record {
  most =
      let k = step_for limit (length list) in
      few k limit (length list) (length (each_from 0 k list)) (omega arith)
      (subst (λ s. length list ≤ s * limit) (sym (step_is limit (length list) some)) (fits limit (length list) ((length list - 1) / limit) (lt-div-mul-add some)))
      (spans k 0 0 0 list (omega arith) (omega arith)).0;
  whole = λ within. ap (λ s. each_from 0 s list) (step_within limit (length list) some within) ∙ all_taken 0 list;
  least = λ step steps less.
      let lesser : step < (length list - 1) / limit + 1 = subst (λ s. step < s) (step_is limit (length list) some) less in
      more step limit (length list) (length (each_from 0 step list)) (beyond step limit (length list) steps (omega (arith, lesser)))
      (spans step 0 0 0 list steps (omega arith)).1;
}
