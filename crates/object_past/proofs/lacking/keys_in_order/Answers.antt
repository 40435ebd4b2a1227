use Rattle.std.proofs.Common.{Bor, sym, ◌∙◌, true≢false}
use Rattle.std.proofs.lemmas.List.Sorted.{Contains-permutation, IsPermutation-map, IsPermutation-sym}
use Rattle.base_types.specs.declared.kubernetes.key.ObjectKey.{ObjectKey}
use Rattle.object_past.proofs.Repeated.{apart_moved, order_apart, sorted_order}
use Rattle.object_past.specs.Among.{keys_at}
use Rattle.object_past.proofs.lacking.keys_in_order.Goals as goal

pub returns-then-not-are_rising-clause-none : goal.returns-then-not-are_rising-clause-none
returns-then-not-are_rising-clause-none c = λ apart.
    let sorted = c.sort_unstable.new.self.items in
    let same = IsPermutation-map (λ (key : Bor ObjectKey). key.now) c.args.keys.items sorted c.sort_unstable.ensures.permutation in
    let rising = (rw c.deref.ensures.value at c.are_rising.ensures).1 (sorted_order sorted c.sort_unstable.ensures.sorted (apart_moved (keys_at c.args.keys.items) (keys_at sorted) same apart)) in
    true≢false (sym rising ∙ c.if-not-are_rising.true)

pub returns-clause-exact : goal.returns-clause-exact
returns-clause-exact c =
    let sorted = c.sort_unstable.new.self.items in
    let same = IsPermutation-map (λ (key : Bor ObjectKey). key.now) c.args.keys.items sorted c.sort_unstable.ensures.permutation in
    λ key. (
      Contains-permutation (keys_at sorted) (keys_at c.args.keys.items) key (IsPermutation-sym (keys_at c.args.keys.items) (keys_at sorted) same),
      Contains-permutation (keys_at c.args.keys.items) (keys_at sorted) key same,
    )

pub returns-clause-distinct : goal.returns-clause-distinct
returns-clause-distinct c =
    let sorted = c.sort_unstable.new.self.items in
    let same = IsPermutation-map (λ (key : Bor ObjectKey). key.now) c.args.keys.items sorted c.sort_unstable.ensures.permutation in
    apart_moved (keys_at sorted) (keys_at c.args.keys.items) (IsPermutation-sym (keys_at c.args.keys.items) (keys_at sorted) same)
    (order_apart (keys_at sorted) ((rw c.deref.ensures.value at c.are_rising.ensures).0 c.if-not-are_rising.false))
