use Rattle.std.proofs.Common.{◌≡◌, List, ℕ, sym, ap, subst, ◌∙◌, rules}
use Rattle.std.proofs.lemmas.List.{take_all}
use Rattle.base_types.specs.Meaning.{Meaning, items, members, kids_of, fields_of}
use Rattle.base_types.specs.Names.{AreSorted}
use Rattle.base_types.specs.Node.{meaning_of}
use Rattle.json_patch.specs.Drafts.{drafted}
use Rattle.json_patch.specs.Joined.{joined}
use Rattle.json_patch.proofs.Joins.{appended_more}
use Rattle.json_patch.proofs.drafting.+tree_of.Goals.{tree_of-in-Null, tree_of-in-Flag, tree_of-in-Whole, tree_of-in-Words+in_ok-clone-in-Words, tree_of-in-Items+in_ok-tree_items-in-Items, tree_of-in-Members+in_ok-tree_members-in-Members}
use Rattle.json_patch.proofs.drafting.+tree_of.Goals as goal

pub tree_of-returns : goal.tree_of-returns
tree_of-returns t c =
    elim c.match-draft.branch [
      | tree_of-in-Null w ↦ ap meaning_of w.node-is ∙ sym (ap drafted w.in-Null.is) ∙ c.draft.view_is
      | tree_of-in-Flag w ↦ ap meaning_of w.node-is ∙ sym (ap drafted w.in-Flag.is) ∙ c.draft.view_is
      | tree_of-in-Whole w ↦ search rules
      | tree_of-in-Words+in_ok-clone-in-Words w ↦ search rules
      | tree_of-in-Items+in_ok-tree_items-in-Items w ↦ ap meaning_of w.node-is ∙ ap (λ xs. items (kids_of xs)) w.in_ok-tree_items-in-Items.ensures ∙ sym (ap drafted w.in-Items.is) ∙ c.draft.view_is
      | tree_of-in-Members+in_ok-tree_members-in-Members w ↦ ap meaning_of w.node-is ∙ ap (λ xs. members (fields_of xs)) w.in_ok-tree_members-in-Members.ensures ∙ sym (ap drafted w.in-Members.is) ∙ c.draft.view_is
    ]

pub append_members-loop-member-preserved : goal.append_members-loop-member-preserved
append_members-loop-member-preserved t c =
    let l = c.loop-member in
    let named : c.in_ok-name.name ≡ c.member.inside.name = search rules in
    let valued = c.in_ok-value.ensures in
    let pair : List ℕ × Meaning = (c.in_ok-name.name, c.in_ok-value.value) in
    let copied : pair ≡ c.member-item.result = (λ j. (named j, valued j)) ∙ c.member.view_is in
    appended_more c.push.new.self.items l.all.items c.args.all.now.items c.deref-member-items.result.now l.member-index c.member-item.result pair c.in_ok-push.ensures.items l.invariant copied c.loop-member-test.true
    c.member-item.is

pub tree_members-invariant_of-result : goal.tree_members-invariant_of-result
tree_members-invariant_of-result t c =
    let l = c.loop-part in
    let all : l.all.items ≡ joined c.list.inside.parts.items = l.invariant ∙ ap joined (take_all l.part-index c.deref-part-items.result.now c.loop-part-test.false) ∙ ap joined c.deref-part-items.ensures.value in
    subst AreSorted (sym all) c.list.invariant
