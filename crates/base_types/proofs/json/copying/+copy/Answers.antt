use Rattle.std.proofs.Common.{◌≡◌, List, ℕ, sym, ap, subst, ◌∙◌, rules}
use Rattle.base_types.specs.Meaning.{Meaning, items, members, kids_of, fields_of}
use Rattle.base_types.specs.Names.{AreSorted}
use Rattle.base_types.specs.Node.{meaning_of}
use Rattle.base_types.proofs.Prefixes.{copied-more, copied-whole}
use Rattle.base_types.proofs.json.copying.+copy.Goals.{copy-in-Null, copy-in-Flag, copy-in-Whole, copy-in-Words+in_ok-clone-in-Words, copy-in-Items+in_ok-copy_items-in-Items, copy-in-Members+in_ok-copy_members-in-Members}
use Rattle.base_types.proofs.json.copying.+copy.Goals as goal

pub copy-returns : goal.copy-returns
copy-returns t c =
    elim c.match-tree.branch [
      | copy-in-Null w ↦ ap meaning_of (w.node-is ∙ sym w.in-Null.is) ∙ c.tree.view_is
      | copy-in-Flag w ↦ ap meaning_of (w.node-is ∙ sym w.in-Flag.is) ∙ c.tree.view_is
      | copy-in-Whole w ↦ search rules
      | copy-in-Words+in_ok-clone-in-Words w ↦ search rules
      | copy-in-Items+in_ok-copy_items-in-Items w ↦ ap meaning_of w.node-is ∙ ap (λ xs. items (kids_of xs)) w.in_ok-copy_items-in-Items.ensures ∙ sym (ap meaning_of w.in-Items.is) ∙ c.tree.view_is
      | copy-in-Members+in_ok-copy_members-in-Members w ↦ ap meaning_of w.node-is ∙ ap (λ xs. members (fields_of xs)) w.in_ok-copy_members-in-Members.ensures ∙ sym (ap meaning_of w.in-Members.is) ∙ c.tree.view_is
    ]

pub copy_items-loop-item-preserved : goal.copy_items-loop-item-preserved
copy_items-loop-item-preserved t c =
    let l = c.loop-item in
    copied-more c.push.new.self.items l.all.items c.deref-item-items.result.now l.item-index c.item-item.result c.in_ok-copy.field-0 c.in_ok-push.ensures.items l.invariant c.in_ok-copy.ensures c.loop-item-test.true c.item-item.is

pub copy_items-returns : goal.copy_items-returns
copy_items-returns t c =
    let l = c.loop-item in subst (λ xs. l.all.items ≡ xs) c.list.view_is (copied-whole l.all.items c.deref-item-items.result.now c.list.inside.all.items l.item-index l.invariant c.loop-item-test.false c.deref-item-items.ensures.value)

pub copy_members-loop-member-preserved : goal.copy_members-loop-member-preserved
copy_members-loop-member-preserved t c =
    let l = c.loop-member in
    let named : c.in_ok-name.name ≡ c.member.inside.name = search rules in
    let valued = c.in_ok-value.ensures in
    let pair : List ℕ × Meaning = (c.in_ok-name.name, c.in_ok-value.value) in
    let copied : pair ≡ c.member-item.result = (λ j. (named j, valued j)) ∙ c.member.view_is in
    copied-more c.push.new.self.items l.all.items c.deref-member-items.result.now l.member-index c.member-item.result pair c.in_ok-push.ensures.items l.invariant copied c.loop-member-test.true c.member-item.is

pub copy_members-returns : goal.copy_members-returns
copy_members-returns t c =
    let l = c.loop-member in
    let all : l.all.items ≡ c.list.inside.all.items = copied-whole l.all.items c.deref-member-items.result.now c.list.inside.all.items l.member-index l.invariant c.loop-member-test.false c.deref-member-items.ensures.value in
    subst (λ xs. l.all.items ≡ xs) c.list.view_is all

pub copy_members-invariant_of-result : goal.copy_members-invariant_of-result
copy_members-invariant_of-result t c =
    let l = c.loop-member in
    let all : l.all.items ≡ c.list.inside.all.items = copied-whole l.all.items c.deref-member-items.result.now c.list.inside.all.items l.member-index l.invariant c.loop-member-test.false c.deref-member-items.ensures.value in
    subst AreSorted (sym all) c.list.invariant
