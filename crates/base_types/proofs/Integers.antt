-- What the comparisons of two integers say.
use Rattle.std.proofs.Common.{◌≡◌, ◌⊎◌, ⊎_elim, inl, inr, true, false, ℤ, ◌<ℤ◌, ◌≤ℤ◌, arith}
use Rattle.std.proofs.lemmas.Bool.{cases_Bool}
use Rattle.std.proofs.lemmas.Int.{ints}
use Rattle.std.specs.Cmp.{int_ranks}
use Rattle.std.specs.Ordering.{int_cmp, is_le, is_lt, MatchOrdering}
use Rattle.std.specs.declared.cmp.Ordering.{Ordering}
use Rattle.std.specs.declared.cmp.Ordering.TheVariants.{Less, Equal, Greater}

-- by what two integers compare to
by_order : (x y : ℤ) (o : Ordering) → MatchOrdering o (x <ℤ y) (x ≡ y) (y <ℤ x) → (P : Ordering → Type 0) → (x <ℤ y → P Less) → (x ≡ y → P Equal) → (y <ℤ x → P Greater) → P o
by_order x y Less ranks P less equal greater = less ranks
by_order x y Equal ranks P less equal greater = equal ranks
by_order x y Greater ranks P less equal greater = greater ranks

pub lt_from_test : (x y : ℤ) → is_lt (int_cmp x y) ≡ true → x <ℤ y
lt_from_test x y = by_order x y (int_cmp x y) (int_ranks x y) (λ o. is_lt o ≡ true → x <ℤ y) (λ below _. below) (λ _ no. cc) (λ _ no. cc)

pub ge_from_test : (x y : ℤ) → is_lt (int_cmp x y) ≡ false → y ≤ℤ x
ge_from_test x y = by_order x y (int_cmp x y) (int_ranks x y) (λ o. is_lt o ≡ false → y ≤ℤ x) (λ _ no. cc) (λ equal _. omega (arith, ints)) (λ above _. omega (arith, ints))

pub test_from_lt : (x y : ℤ) → x <ℤ y → is_lt (int_cmp x y) ≡ true
test_from_lt x y below =
    ⊎_elim (λ is. is) (λ no. let above = ge_from_test x y no in absurd (omega (arith, ints))) (cases_Bool (is_lt (int_cmp x y)))

pub test_from_ge : (x y : ℤ) → y ≤ℤ x → is_lt (int_cmp x y) ≡ false
test_from_ge x y above =
    ⊎_elim (λ is. let below = lt_from_test x y is in absurd (omega (arith, ints))) (λ no. no) (cases_Bool (is_lt (int_cmp x y)))

-- one of two integers is below the other, or not
pub lt_or_ge : (x y : ℤ) → (x <ℤ y) ⊎ (y ≤ℤ x)
lt_or_ge x y = by_order x y (int_cmp x y) (int_ranks x y) (λ _. (x <ℤ y) ⊎ (y ≤ℤ x)) inl (λ equal. inr (omega (arith, ints))) (λ above. inr (omega (arith, ints)))

pub le_from_test : (x y : ℤ) → is_le (int_cmp x y) ≡ true → x ≤ℤ y
le_from_test x y =
    by_order x y (int_cmp x y) (int_ranks x y) (λ o. is_le o ≡ true → x ≤ℤ y) (λ below _. omega (arith, ints)) (λ equal _. omega (arith, ints)) (λ _ no. cc)

pub gt_from_test : (x y : ℤ) → is_le (int_cmp x y) ≡ false → y <ℤ x
gt_from_test x y =
    by_order x y (int_cmp x y) (int_ranks x y) (λ o. is_le o ≡ false → y <ℤ x) (λ _ no. cc) (λ _ no. cc) (λ above _. above)

pub test_from_le : (x y : ℤ) → x ≤ℤ y → is_le (int_cmp x y) ≡ true
test_from_le x y upto =
    ⊎_elim (λ is. is) (λ no. let above = gt_from_test x y no in absurd (omega (arith, ints))) (cases_Bool (is_le (int_cmp x y)))
