-- The comparison of two numbers, and of two things by one comparison after another.
use Rattle.std.proofs.Common.{◌≡◌, ℕ, ◌<◌, true, refl, arith}
use Rattle.std.specs.Ordering.{ordering_then, is_lt, nat_cmp}
use Rattle.std.specs.declared.cmp.Ordering.{Ordering}
use Rattle.std.specs.declared.cmp.Ordering.TheVariants.{Less, Equal}
use Rattle.std.proofs.lemmas.Bool.Decides.{nat_tests}

pub nat_less : (a b : ℕ) → a < b → nat_cmp a b ≡ Less
nat_less a b l = grind (arith, nat_tests)

pub nat_equal : (a b : ℕ) → a ≡ b → nat_cmp a b ≡ Equal
nat_equal a b e = grind (arith, nat_tests)

pub then_less : (o p : Ordering) → o ≡ Less → is_lt (ordering_then o p) ≡ true
then_less o p e = rw e refl

pub then_next : (o p : Ordering) → o ≡ Equal → is_lt p ≡ true → is_lt (ordering_then o p) ≡ true
then_next o p e l = rw e l
