use Rattle.std.proofs.Common.{◌≡◌, ℕ, List, ◌+◌, ◌<◌, ◌++◌, ◌∷◌, [], drop, true, false, option_map, sym, ap, subst, ◌∙◌, arith, rules}
use Rattle.base_types.specs.Meaning.{Meaning, members, fields_of}
use Rattle.base_types.specs.Names.{AreSorted}
use Rattle.base_types.specs.Node.{meaning_of}
use Rattle.base_types.specs.Parts.{is_null}
use Rattle.base_types.specs.Size.{nodes, fields_nodes}
use Rattle.base_types.proofs.Printing.{field_smaller}
use Rattle.merge_patch.specs.Merging.{merged, changed}
use Rattle.merge_patch.specs.Walking.{AllBelow, StartsNotBelow, IsFirstValue}
use Rattle.merge_patch.proofs.Steps.{dropped, put_between, sorted_dropped, sorted_put, all_below_snoc, all_below_above, merged_more, later_changes, below_later, below_this}
use Rattle.merge_patch.proofs.merging.+merge.Goals as goal

pub merge-merge_members-requires : goal.merge-merge_members-requires
merge-merge_members-requires t c =
    let is : c.args.patch.now ≡ members (fields_of c.in-Members.changes) = sym c.patch.view_is ∙ ap meaning_of c.in-Members.is in
    let size : nodes c.args.patch.now ≡ fields_nodes (fields_of c.in-Members.changes) + 2 = ap nodes is in
    let small : fields_nodes (fields_of c.in-Members.changes) < nodes c.args.patch.now = omega arith in
    (omega arith, c.members_of.ensures.sorted)

pub merge_member-returns-then-is_null-clause-merged : goal.merge_member-returns-then-is_null-clause-merged
merge_member-returns-then-is_null-clause-merged t c =
    let change = c.args.change.now in
    let l = drop c.in_ok-at.at c.args.old.now in
    let done = c.copy_below.new.all.items in
    let value = option_map (λ t. t.now) c.take_named-next.result.0 in
    let named : c.change.inside.name ≡ change.0 = ap (λ m. m.0) c.change.view_is in
    let valued : c.change.inside.value ≡ change.1 = ap (λ m. m.1) c.change.view_is in
    let sorted : AreSorted (done ++ l) = subst AreSorted (sym c.in_ok-at.ensures.kept) c.requires.walked.sorted in
    let below : AllBelow change.0 done = subst (λ n. AllBelow n done) named (c.in_ok-at.ensures.below (subst (λ n. AllBelow n c.args.all.now.items) (sym named) c.requires.below)) in
    let starts : StartsNotBelow change.0 l = subst (λ n. StartsNotBelow n l) named c.in_ok-at.ensures.next in
    let first : IsFirstValue change.0 l value = subst (λ n. IsFirstValue n l value) named c.take_named-next.ensures.value in
    let null : is_null change.1 ≡ true = ap is_null (sym valued) ∙ sym c.is_null.ensures ∙ c.if-is_null.true in
    ap (λ more. fields_of (done ++ more)) c.take_named-next.ensures.next ∙ dropped change.0 change.1 value done l sorted below starts first null
    ∙ ap (λ ms. changed change (fields_of ms)) c.in_ok-at.ensures.kept

pub merge_member-returns-then-is_null-clause-walked : goal.merge_member-returns-then-is_null-clause-walked
merge_member-returns-then-is_null-clause-walked t c =
    let l = drop c.in_ok-at.at c.args.old.now in
    let done = c.copy_below.new.all.items in
    let sorted : AreSorted (done ++ l) = subst AreSorted (sym c.in_ok-at.ensures.kept) c.requires.walked.sorted in
    record {
      within = c.take_named-next.ensures.within;
      sorted = subst (λ more. AreSorted (done ++ more)) (sym c.take_named-next.ensures.next) (sorted_dropped c.args.change.now.0 _ done l sorted);
    }

pub merge_member-returns-then-is_null-clause-below : goal.merge_member-returns-then-is_null-clause-below
merge_member-returns-then-is_null-clause-below t c = λ name lt.
    let named : c.change.inside.name ≡ c.args.change.now.0 = ap (λ m. m.0) c.change.view_is in
    let below : AllBelow c.args.change.now.0 c.copy_below.new.all.items =
    subst (λ n. AllBelow n c.copy_below.new.all.items) named (c.in_ok-at.ensures.below (subst (λ n. AllBelow n c.args.all.now.items) (sym named) c.requires.below)) in
    all_below_above c.args.change.now.0 name c.copy_below.new.all.items below lt

pub merge_member-merge-requires : goal.merge_member-merge-requires
merge_member-merge-requires t c =
    let size : nodes c.change.inside.value ≡ nodes c.args.change.now.1 = ap (λ (m : List ℕ × Meaning). nodes m.1) c.change.view_is in
    (omega arith, tt)

pub merge_member-returns-clause-merged : goal.merge_member-returns-clause-merged
merge_member-returns-clause-merged t c =
    let change = c.args.change.now in
    let l = drop c.in_ok-at.at c.args.old.now in
    let done = c.copy_below.new.all.items in
    let value = option_map (λ t. t.now) c.take_named-next.result.0 in
    let named : c.change.inside.name ≡ change.0 = ap (λ m. m.0) c.change.view_is in
    let valued : c.change.inside.value ≡ change.1 = ap (λ m. m.1) c.change.view_is in
    let sorted : AreSorted (done ++ l) = subst AreSorted (sym c.in_ok-at.ensures.kept) c.requires.walked.sorted in
    let below : AllBelow change.0 done = subst (λ n. AllBelow n done) named (c.in_ok-at.ensures.below (subst (λ n. AllBelow n c.args.all.now.items) (sym named) c.requires.below)) in
    let starts : StartsNotBelow change.0 l = subst (λ n. StartsNotBelow n l) named c.in_ok-at.ensures.next in
    let first : IsFirstValue change.0 l value = subst (λ n. IsFirstValue n l value) named c.take_named-next.ensures.value in
    let other : is_null change.1 ≡ false = ap is_null (sym valued) ∙ sym c.is_null.ensures ∙ c.if-is_null.false in
    let same : c.in_ok-name.name ≡ change.0 = search rules in
    let w = c.in_ok-value.value in
    let made : w ≡ merged value change.1 = c.in_ok-value.ensures ∙ ap (merged value) valued in
    let pushed : c.push.new.self.items ≡ done ++ (change.0, w) ∷ [] = c.in_ok-push.ensures.items ∙ ap (λ n. done ++ (n, w) ∷ []) same in
    (λ i. fields_of (pushed i ++ c.take_named-next.ensures.next i)) ∙ put_between change.0 change.1 w value done l sorted below starts first other made
    ∙ ap (λ ms. changed change (fields_of ms)) c.in_ok-at.ensures.kept

pub merge_member-returns-clause-walked : goal.merge_member-returns-clause-walked
merge_member-returns-clause-walked t c =
    let change = c.args.change.now in
    let l = drop c.in_ok-at.at c.args.old.now in
    let done = c.copy_below.new.all.items in
    let value = option_map (λ t. t.now) c.take_named-next.result.0 in
    let named : c.change.inside.name ≡ change.0 = ap (λ m. m.0) c.change.view_is in
    let sorted : AreSorted (done ++ l) = subst AreSorted (sym c.in_ok-at.ensures.kept) c.requires.walked.sorted in
    let below : AllBelow change.0 done = subst (λ n. AllBelow n done) named (c.in_ok-at.ensures.below (subst (λ n. AllBelow n c.args.all.now.items) (sym named) c.requires.below)) in
    let starts : StartsNotBelow change.0 l = subst (λ n. StartsNotBelow n l) named c.in_ok-at.ensures.next in
    let first : IsFirstValue change.0 l value = subst (λ n. IsFirstValue n l value) named c.take_named-next.ensures.value in
    let same : c.in_ok-name.name ≡ change.0 = search rules in
    let w = c.in_ok-value.value in
    let pushed : c.push.new.self.items ≡ done ++ (change.0, w) ∷ [] = c.in_ok-push.ensures.items ∙ ap (λ n. done ++ (n, w) ∷ []) same in
    record {
      within = c.take_named-next.ensures.within;
      sorted = subst AreSorted (λ i. sym pushed i ++ sym c.take_named-next.ensures.next i) (sorted_put change.0 w value done l sorted below starts first);
    }

pub merge_member-returns-clause-below : goal.merge_member-returns-clause-below
merge_member-returns-clause-below t c = λ name lt.
    let change = c.args.change.now in
    let done = c.copy_below.new.all.items in
    let named : c.change.inside.name ≡ change.0 = ap (λ m. m.0) c.change.view_is in
    let below : AllBelow change.0 done = subst (λ n. AllBelow n done) named (c.in_ok-at.ensures.below (subst (λ n. AllBelow n c.args.all.now.items) (sym named) c.requires.below)) in
    let same : c.in_ok-name.name ≡ change.0 = search rules in
    let w = c.in_ok-value.value in
    let pushed : c.push.new.self.items ≡ done ++ (change.0, w) ∷ [] = c.in_ok-push.ensures.items ∙ ap (λ n. done ++ (n, w) ∷ []) same in
    subst (AllBelow name) (sym pushed) (all_below_snoc name done (change.0, w) (all_below_above change.0 name done below lt) lt)

pub merge_members-merge_member-requires : goal.merge_members-merge_member-requires
merge_members-merge_member-requires t c =
    let l = c.loop-change in
    let all : c.args.changes.now ≡ c.deref-change-items.result.now = sym c.changes.view_is ∙ sym c.deref-change-items.ensures.value in
    let whole = c.deref-change-items.result.now in
    let smaller = field_smaller whole l.change-index c.change-item.result c.loop-change-test.true in
    let small : nodes c.change-item.result.1 + 1 < fields_nodes (fields_of c.args.changes.now) =
    subst (λ ms. nodes c.change-item.result.1 + 1 < fields_nodes (fields_of ms)) (sym all) (subst (λ (x : List ℕ × Meaning). nodes x.1 + 1 < fields_nodes (fields_of whole)) (sym c.change-item.is) smaller) in
    (omega arith, (l.invariant.walked, below_this whole l.all.items l.change-index c.change-item.result c.loop-change-test.true c.change-item.is l.invariant.below))

pub merge_members-loop-change-preserved : goal.merge_members-loop-change-preserved
merge_members-loop-change-preserved t c =
    let l = c.loop-change in
    let whole = c.deref-change-items.result.now in
    let sorted = subst AreSorted (sym c.deref-change-items.ensures.value) c.changes.invariant in
    let done = c.in_ok-at.ensures in record {
      walked = done.walked;
      merged = done.merged ∙ ap (changed c.change-item.result) l.invariant.merged ∙ merged_more (fields_of c.args.old.now) whole l.change-index c.change-item.result c.loop-change-test.true c.change-item.is;
      below = below_later c.change-item.result.0 (drop (l.change-index + 1) whole) c.merge_member.new.all.items (later_changes whole l.change-index c.change-item.result sorted c.loop-change-test.true c.change-item.is) done.below;
    }
