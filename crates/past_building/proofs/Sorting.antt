-- Lists that are sorted by a number that no two items share.
use Rattle.std.proofs.Common.{◌≢◌, ℕ, ◌<◌, ◌≤◌, List, arith}
use Rattle.std.specs.Prelude.{AllPairs}
use Rattle.std.specs.List.Sorted.{IsNonDecreasingBy, IsPermutation}
use Rattle.write_groups.proofs.Judging.{apart_moved}

pub sorted_apart : {X : Type 0} (n : X → ℕ) (xs ys : List X) → IsPermutation xs ys → AllPairs (λ a b. n a ≢ n b) xs → IsNonDecreasingBy n ys → AllPairs (λ a b. n a < n b) ys
sorted_apart n xs ys same apart sorted = λ i j d before within.
    below _ _ (sorted i j d (omega (arith, before)) within) (apart_moved n xs ys same apart i j d before within)
  where
    below : (a b : ℕ) → a ≤ b → a ≢ b → a < b
    below a b upto differ = omega (arith, upto, differ)
