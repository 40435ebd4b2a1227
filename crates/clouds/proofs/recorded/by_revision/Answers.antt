use Rattle.std.proofs.Common.{◌≡◌, map, rules, subst}
use Rattle.std.specs.List.Sorted.{IsPermutation}
use Rattle.std.proofs.lemmas.List.Sorted.{IsPermutation-map}
use Rattle.clouds.proofs.recorded.by_revision.Goals as goal

pub returns : goal.returns
returns c =
    let all : map (λ write. write.now) c.in_ok-order.order.items ≡ c.args.writes.now = search rules in
    subst (λ l. IsPermutation l (map (λ write. write.now) c.sort_by_key.new.self.items)) all (IsPermutation-map (λ write. write.now) _ _ c.in_ok-sort_by_key.ensures.permutation)
