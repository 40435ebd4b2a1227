use Rattle.std.proofs.Common.{◌≡◌, ℕ, List, rules, subst, ◌∙◌, length}
use Rattle.std.specs.Ordering.{nat_cmp}
use Rattle.std.specs.Cmp.Lexicographic.{slice_cmp}
use Rattle.std.specs.List.Sorted.{IsBinarySearchResult, IsSearchInRange}
use Rattle.std.proofs.lemmas.Fn.{always_returns_same}
use Rattle.base_types.specs.Meaning.{Meaning}
use Rattle.base_types.proofs.Ordered.{found_at, place_at}
use Rattle.json_patch.proofs.draft.MemberChunk.find.Goals as goal

pub returns-clause-found : goal.returns-clause-found
returns-clause-found c =
    let same : c.deref.result.now ≡ c.args.self.now = c.deref.ensures.value ∙ c.self.view_is in
    let order = λ (m : List ℕ × Meaning). slice_cmp nat_cmp m.0 c.args.name.now in
    let answer = c.binary_search_by.ensures.position order (always_returns_same _ _ _ (λ a r f' k. search rules)) in
    found_at c.args.self.now c.args.name.now c.binary_search_by.result c.requires
    (subst (λ ms. IsSearchInRange c.binary_search_by.result (length ms)) same c.binary_search_by.ensures.bound)
    (subst (λ ms. IsBinarySearchResult order ms c.binary_search_by.result) same answer)

pub returns-clause-place : goal.returns-clause-place
returns-clause-place c =
    let same : c.deref.result.now ≡ c.args.self.now = c.deref.ensures.value ∙ c.self.view_is in
    let order = λ (m : List ℕ × Meaning). slice_cmp nat_cmp m.0 c.args.name.now in
    let answer = c.binary_search_by.ensures.position order (always_returns_same _ _ _ (λ a r f' k. search rules)) in
    place_at c.args.self.now c.args.name.now c.binary_search_by.result c.requires
    (subst (λ ms. IsSearchInRange c.binary_search_by.result (length ms)) same c.binary_search_by.ensures.bound)
    (subst (λ ms. IsBinarySearchResult order ms c.binary_search_by.result) same answer)
