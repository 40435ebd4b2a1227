use Rattle.std.proofs.Common.{◌≡◌, List, ℕ, sym, ap, subst, ◌∙◌, rules}
use Rattle.base_types.specs.Meaning.{Meaning, items, members, kids_of, fields_of}
use Rattle.base_types.specs.Names.{AreSorted}
use Rattle.base_types.specs.Node.{meaning_of}
use Rattle.base_types.proofs.Prefixes.{copied-more, copied-whole}
use Rattle.json_patch.specs.Drafts.{drafted}
use Rattle.json_patch.specs.Joined.{joined}
use Rattle.json_patch.proofs.drafting.+draft_of.Goals.{draft_of-in-Null, draft_of-in-Flag, draft_of-in-Whole, draft_of-in-Words+in_ok-clone-in-Words, draft_of-in-Items+in_ok-draft_items-in-Items, draft_of-in-Members+in_ok-draft_members-in-Members}
use Rattle.json_patch.proofs.drafting.+draft_of.Goals as goal

pub draft_of-returns : goal.draft_of-returns
draft_of-returns t c =
    elim c.match-tree.branch [
      | draft_of-in-Null w ↦ ap drafted w.node-is ∙ sym (ap meaning_of w.in-Null.is) ∙ c.tree.view_is
      | draft_of-in-Flag w ↦ ap drafted w.node-is ∙ sym (ap meaning_of w.in-Flag.is) ∙ c.tree.view_is
      | draft_of-in-Whole w ↦ search rules
      | draft_of-in-Words+in_ok-clone-in-Words w ↦ search rules
      | draft_of-in-Items+in_ok-draft_items-in-Items w ↦ ap drafted w.node-is ∙ ap (λ xs. items (kids_of xs)) w.in_ok-draft_items-in-Items.ensures ∙ sym (ap meaning_of w.in-Items.is) ∙ c.tree.view_is
      | draft_of-in-Members+in_ok-draft_members-in-Members w ↦ ap drafted w.node-is ∙ ap (λ xs. members (fields_of xs)) w.in_ok-draft_members-in-Members.ensures ∙ sym (ap meaning_of w.in-Members.is) ∙ c.tree.view_is
    ]

pub draft_items-loop-item-preserved : goal.draft_items-loop-item-preserved
draft_items-loop-item-preserved t c =
    let l = c.loop-item in
    copied-more c.push.new.self l.made c.deref-item-items.result.now l.item-index c.item-item.result c.in_ok-draft_of.field-0 c.in_ok-push.ensures l.invariant c.in_ok-draft_of.ensures c.loop-item-test.true c.item-item.is

pub draft_items-returns : goal.draft_items-returns
draft_items-returns t c =
    let l = c.loop-item in subst (λ xs. l.made ≡ xs) c.list.view_is (copied-whole l.made c.deref-item-items.result.now c.list.inside.all.items l.item-index l.invariant c.loop-item-test.false c.deref-item-items.ensures.value)

pub draft_members-loop-member-preserved : goal.draft_members-loop-member-preserved
draft_members-loop-member-preserved t c =
    let l = c.loop-member in
    let named : c.in_ok-name.name ≡ c.member.inside.name = search rules in
    let valued = c.in_ok-value.ensures in
    let pair : List ℕ × Meaning = (c.in_ok-name.name, c.in_ok-value.value) in
    let copied : pair ≡ c.member-item.result = (λ j. (named j, valued j)) ∙ c.member.view_is in
    copied-more (joined c.push.new.parts.items) (joined l.parts.items) c.deref-member-items.result.now l.member-index c.member-item.result pair c.in_ok-push.ensures l.invariant copied c.loop-member-test.true c.member-item.is

pub draft_members-returns : goal.draft_members-returns
draft_members-returns t c =
    let l = c.loop-member in
    let all : joined l.parts.items ≡ c.list.inside.all.items = copied-whole (joined l.parts.items) c.deref-member-items.result.now c.list.inside.all.items l.member-index l.invariant c.loop-member-test.false c.deref-member-items.ensures.value in
    subst (λ xs. joined l.parts.items ≡ xs) c.list.view_is all

pub draft_members-invariant_of-result : goal.draft_members-invariant_of-result
draft_members-invariant_of-result t c =
    let l = c.loop-member in
    let all : joined l.parts.items ≡ c.list.inside.all.items = copied-whole (joined l.parts.items) c.deref-member-items.result.now c.list.inside.all.items l.member-index l.invariant c.loop-member-test.false c.deref-member-items.ensures.value in
    subst AreSorted (sym all) c.list.invariant
