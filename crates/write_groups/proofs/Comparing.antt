-- What tests of numbers say.
use Rattle.std.proofs.Common.{◌≡◌, ℕ, ℤ, ◌<◌, ◌≤◌, ◌<ℤ◌, ◌≤ℤ◌, Bool, true, false, ◌⊎◌, inl, inr, refl, arith}
use Rattle.std.specs.Prelude.{int_lt, nat_lt}
use Rattle.std.proofs.lemmas.Bool.Decides.{nat_tests}
use Rattle.std.proofs.lemmas.Int.{ints}

int_is : (x y : ℤ) → int_lt x y ≡ true → x <ℤ y
int_is x y e = grind (arith, ints)

int_not : (x y : ℤ) → int_lt x y ≡ false → y ≤ℤ x
int_not x y e = grind (arith, ints)

pub int_tells : (x y : ℤ) → ((int_lt x y ≡ true) × (x <ℤ y)) ⊎ ((int_lt x y ≡ false) × (y ≤ℤ x))
int_tells x y = go (int_lt x y) refl
  where
    go : (t : Bool) → int_lt x y ≡ t → ((int_lt x y ≡ true) × (x <ℤ y)) ⊎ ((int_lt x y ≡ false) × (y ≤ℤ x))
    go true e = inl (e, int_is x y e)
    go false e = inr (e, int_not x y e)

nat_is : (x y : ℕ) → nat_lt x y ≡ true → x < y
nat_is x y e = grind (arith, nat_tests)

nat_not : (x y : ℕ) → nat_lt x y ≡ false → y ≤ x
nat_not x y e = grind (arith, nat_tests)

pub nat_tells : (x y : ℕ) → ((nat_lt x y ≡ true) × (x < y)) ⊎ ((nat_lt x y ≡ false) × (y ≤ x))
nat_tells x y = go (nat_lt x y) refl
  where
    go : (t : Bool) → nat_lt x y ≡ t → ((nat_lt x y ≡ true) × (x < y)) ⊎ ((nat_lt x y ≡ false) × (y ≤ x))
    go true e = inl (e, nat_is x y e)
    go false e = inr (e, nat_not x y e)
