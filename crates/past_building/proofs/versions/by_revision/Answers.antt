use Rattle.std.proofs.Common.{◌≡◌, ◌≢◌, AllPairs, map, rules, subst, sym}
use Rattle.std.specs.List.Sorted.{IsPermutation}
use Rattle.std.proofs.lemmas.List.Sorted.{IsNonDecreasingBy-from_sort_by_key, IsPermutation-map}
use Rattle.write_groups.proofs.Lists.{pairs_unmap}
use Rattle.write_groups.specs.declared.event.Item.{Item}
use Rattle.past_building.proofs.Sorting.{sorted_apart}
use Rattle.past_building.proofs.versions.by_revision.Goals as goal

pub returns-clause-same : goal.returns-clause-same
returns-clause-same c =
    let all : map (λ item. item.now) c.in_ok-order.order.items ≡ c.args.snapshot.now = search rules in
    subst (λ l. IsPermutation l (map (λ item. item.now) c.sort_by_key.new.self.items)) all (IsPermutation-map (λ item. item.now) _ _ c.in_ok-sort_by_key.ensures.permutation)

pub returns-clause-rising : goal.returns-clause-rising
returns-clause-rising c =
    let all : map (λ item. item.now) c.in_ok-order.order.items ≡ c.args.snapshot.now = search rules in
    sorted_apart (λ item. item.now.revision) c.in_ok-order.order.items c.sort_by_key.new.self.items c.in_ok-sort_by_key.ensures.permutation
    (pairs_unmap (λ item. item.now) (λ (a b : Item). a.revision ≢ b.revision) c.in_ok-order.order.items (subst (AllPairs (λ (a b : Item). a.revision ≢ b.revision)) (sym all) c.requires))
    (IsNonDecreasingBy-from_sort_by_key (λ item. item.now.revision) _ c.in_ok-sort_by_key.ensures.sorted (λ a r q k. search rules))
