-- Bounds on different ranges, in an order that doesn't fall, rise.
use Rattle.std.proofs.Common.{◌≢◌, ◌<◌, eqb, List, map, AllPairs, arith}
use Rattle.std.specs.List.Sorted.{IsPermutation, IsNonDecreasingBy}
use Rattle.std.proofs.lemmas.Bool.Decides.{Decides-eqb}
use Rattle.std.specs.Cmp.{nat_eq_equiv}
use Rattle.std.proofs.lemmas.List.Sorted.{IsPermutation-map}
use Rattle.std.proofs.lemmas.Map.Keys.{IsDistinct-IsPermutation}
use Rattle.std.proofs.lemmas.Map.Made.{AllPairs-from_IsDistinct, IsDistinct-from_AllPairs}
use Rattle.base_types.specs.declared.verdict.claim.Bound.{Bound}
use Rattle.write_groups.proofs.Lists.{pairs_map, pairs_unmap}

apart_moved : (given sorted : List Bound) → IsPermutation given sorted → AllPairs (λ a b. a.range ≢ b.range) given → AllPairs (λ a b. a.range ≢ b.range) sorted
apart_moved given sorted same apart = pairs_unmap (λ (b : Bound). b.range) (λ x y. x ≢ y) sorted (AllPairs-from_IsDistinct Decides-eqb (map (λ (b : Bound). b.range) sorted)
    (IsDistinct-IsPermutation eqb nat_eq_equiv.symm (map (λ (b : Bound). b.range) given) (map (λ (b : Bound). b.range) sorted) (IsPermutation-map (λ (b : Bound). b.range) given sorted same)
    (IsDistinct-from_AllPairs Decides-eqb (map (λ (b : Bound). b.range) given) (pairs_map (λ (b : Bound). b.range) (λ x y. x ≢ y) given apart))))

pub strict_by : (given sorted : List Bound) → IsPermutation given sorted → IsNonDecreasingBy (λ bound. bound.range) sorted → AllPairs (λ a b. a.range ≢ b.range) given → AllPairs (λ a b. a.range < b.range) sorted
strict_by given sorted same order apart = λ i j d l m. omega (arith, order i j d (omega arith) m, apart_moved given sorted same apart i j d l m)
