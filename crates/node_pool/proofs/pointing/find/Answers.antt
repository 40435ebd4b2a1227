use Rattle.std.proofs.Common.{ℕ, rules, subst}
use Rattle.std.specs.Ordering.{nat_cmp}
use Rattle.std.specs.Cmp.Lexicographic.{slice_cmp}
use Rattle.std.specs.List.Sorted.{IsBinarySearchResult}
use Rattle.std.proofs.lemmas.Fn.{always_returns_same}
use Rattle.node_pool.specs.Within.{name_of}
use Rattle.node_pool.proofs.pointing.find.Goals as goal

pub returns-clause-found : goal.returns-clause-found
returns-clause-found c =
    let order = λ (m : ℕ × ℕ). slice_cmp nat_cmp (name_of c.args.store.now.names m) c.args.name.now in
    let answer = c.binary_search_by.ensures.position order (always_returns_same _ _ _ (λ a r f' k. search rules)) in
    subst (λ ms. IsBinarySearchResult order ms c.binary_search_by.result) c.deref.ensures.value answer
