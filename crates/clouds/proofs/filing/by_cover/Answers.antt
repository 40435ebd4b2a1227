use Rattle.std.proofs.Common.{◌≡◌, map, rules, subst}
use Rattle.std.specs.List.Sorted.{IsPermutation}
use Rattle.std.proofs.lemmas.List.Sorted.{IsPermutation-map}
use Rattle.clouds.proofs.filing.by_cover.Goals as goal

pub returns : goal.returns
returns c =
    let all : map (λ span. span.now) c.in_ok-order.order.items ≡ c.args.spans.now = search rules in
    subst (λ l. IsPermutation l (map (λ span. span.now) c.sort_by_key.new.self.items)) all (IsPermutation-map (λ span. span.now) _ _ c.in_ok-sort_by_key.ensures.permutation)
