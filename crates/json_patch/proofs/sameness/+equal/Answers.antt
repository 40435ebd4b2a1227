use Rattle.std.proofs.Common.{◌≡◌, ◌↔◌, ◌<◌, ◌≤◌, IsTrue, false, ◌++◌, length, take, refl, sym, ap, subst, ◌∙◌}
use Rattle.std.proofs.lemmas.Bool.{false≢true}
use Rattle.std.proofs.lemmas.List.{take-append-drop}
use Rattle.json_patch.specs.Joined.{joined}
use Rattle.json_patch.proofs.Joins.{agree_further, part_too_long, part_differs, agree_to_end, none_left}
use Rattle.base_types.specs.Node.{meaning_of}
use Rattle.json_patch.specs.Drafts.{drafted}
use Rattle.base_types.proofs.Lists.{same_items, same_members}
use Rattle.base_types.proofs.Prefixes.{agree-more, agree-whole, differ-at}
use Rattle.json_patch.proofs.sameness.+equal.Goals as goal

pub equal-returns-in-Items-Items : goal.equal-returns-in-Items-Items
equal-returns-in-Items-Items t c =
    let w = c.in-Items-Items in
    same_items c.args.a.now c.args.b.now w.x w.y c.equal_items.result (sym c.a.view_is ∙ ap drafted w.is-0) (sym c.b.view_is ∙ ap meaning_of w.is-1) c.equal_items.ensures

pub equal-returns-in-Members-Members : goal.equal-returns-in-Members-Members
equal-returns-in-Members-Members t c =
    let w = c.in-Members-Members in
    same_members c.args.a.now c.args.b.now w.x w.y c.equal_members.result (sym c.a.view_is ∙ ap drafted w.is-0) (sym c.b.view_is ∙ ap meaning_of w.is-1) c.equal_members.ensures

pub equal_items-loop-part-init : goal.equal_items-loop-part-init
equal_items-loop-part-init t c = c.as_slice-rest.ensures.value ∙ c.b.view_is

pub equal_items-loop-part-preserved : goal.equal_items-loop-part-preserved
equal_items-loop-part-preserved t c =
    let l = c.loop-part in
    let n = c.len-in-loop-part.result in
    let two = (λ j. c.split_at.ensures.front j ++ c.split_at.ensures.back j) ∙ take-append-drop n l.rest.now in
    agree_further c.deref-part-items.result.now l.part-index c.part-item.result c.split_at.result.0.now c.split_at.result.1.now l.rest.now c.args.b.now c.loop-part-test.true c.part-item.is l.invariant two
    (c.equal_part.ensures.0 c.if-not-equal_part.false)

pub equal_items-returns-then-len-rest : goal.equal_items-returns-then-len-rest
equal_items-returns-then-len-rest t c =
    let l = c.loop-part in
    let short : length l.rest.now < length c.part-item.result = subst (λ n. length l.rest.now < n) c.len.ensures c.if-len-rest.true in (
      λ no. absurd (false≢true no),
      λ same. absurd (part_too_long c.deref-part-items.result.now l.part-index c.part-item.result l.rest.now c.args.b.now c.loop-part-test.true c.part-item.is l.invariant short
          (ap joined c.deref-part-items.ensures.value ∙ c.a.view_is ∙ same)),
    )

pub equal_items-returns-then-not-equal_part : goal.equal_items-returns-then-not-equal_part
equal_items-returns-then-not-equal_part t c =
    let l = c.loop-part in
    let here : c.split_at.result.0.now ≡ take (length c.part-item.result) l.rest.now = c.split_at.ensures.front ∙ ap (λ n. take n l.rest.now) c.len-in-loop-part.ensures in (
      λ no. absurd (false≢true no),
      λ same. c.if-not-equal_part.ensures.1 (part_differs c.deref-part-items.result.now l.part-index c.part-item.result l.rest.now c.args.b.now c.loop-part-test.true c.part-item.is l.invariant
          (ap joined c.deref-part-items.ensures.value ∙ c.a.view_is ∙ same) ∙ sym here),
    )

pub equal_items-returns : goal.equal_items-returns
equal_items-returns t c =
    let l = c.loop-part in
    let both = agree_to_end c.deref-part-items.result.now l.part-index l.rest.now c.args.b.now c.loop-part-test.false l.invariant in
    let whole = ap joined c.deref-part-items.ensures.value ∙ c.a.view_is in
    let none = none_left l.rest.now in (
      λ yes. sym whole ∙ both.0 (none.0 (sym c.is_empty.ensures ∙ yes)),
      λ same. c.is_empty.ensures ∙ none.1 (both.1 (whole ∙ same)),
    )

pub equal_part-loop-i-preserved : goal.equal_part-loop-i-preserved
equal_part-loop-i-preserved t c =
    let within = subst (λ n. c.loop-i.i < n) (c.len-i-end.ensures ∙ c.a.inside.all.ok.0) c.loop-i-test.true in
    let long : length c.a.inside.all.items ≡ length c.args.b.now = sym c.a.inside.all.ok.0 ∙ sym c.len.ensures ∙ c.if-len-b.false in
    agree-more c.a.inside.all.items c.args.b.now c.loop-i.i c.index.result.now c.index-b-i.result within long c.index.ensures c.index-b-i.is c.loop-i.invariant (c.equal.ensures.0 c.if-not-equal.false)

pub equal_part-returns : goal.equal_part-returns
equal_part-returns t c =
    let long : length c.a.inside.all.items ≡ length c.args.b.now = sym c.a.inside.all.ok.0 ∙ sym c.len.ensures ∙ c.if-len-b.false in
    let end = subst (λ n. n ≤ c.loop-i.i) (c.len-i-end.ensures ∙ c.a.inside.all.ok.0) c.loop-i-test.false in
    let all = sym c.a.view_is ∙ agree-whole c.a.inside.all.items c.args.b.now c.loop-i.i end long c.loop-i.invariant in (λ _. all, λ _. refl)

pub equal_part-returns-then-not-equal : goal.equal_part-returns-then-not-equal
equal_part-returns-then-not-equal t c =
    let within = subst (λ n. c.loop-i.i < n) (c.len-i-end.ensures ∙ c.a.inside.all.ok.0) c.loop-i-test.true in
    let long : length c.a.inside.all.items ≡ length c.args.b.now = sym c.a.inside.all.ok.0 ∙ sym c.len.ensures ∙ c.if-len-b.false in
    subst (λ xs. IsTrue false ↔ (xs ≡ c.args.b.now)) c.a.view_is
    (differ-at c.a.inside.all.items c.args.b.now c.loop-i.i c.index.result.now c.index-b-i.result within long c.index.ensures c.index-b-i.is c.if-not-equal.ensures.1)

pub equal_members-loop-part-init : goal.equal_members-loop-part-init
equal_members-loop-part-init t c = c.as_slice-rest.ensures.value ∙ c.b.view_is

pub equal_members-loop-part-preserved : goal.equal_members-loop-part-preserved
equal_members-loop-part-preserved t c =
    let l = c.loop-part in
    let n = c.len-in-loop-part.result in
    let two = (λ j. c.split_at.ensures.front j ++ c.split_at.ensures.back j) ∙ take-append-drop n l.rest.now in
    agree_further c.deref-part-items.result.now l.part-index c.part-item.result c.split_at.result.0.now c.split_at.result.1.now l.rest.now c.args.b.now c.loop-part-test.true c.part-item.is l.invariant two
    (c.equal_member_part.ensures.0 c.if-not-equal_member_part.false)

pub equal_members-returns-then-len-rest : goal.equal_members-returns-then-len-rest
equal_members-returns-then-len-rest t c =
    let l = c.loop-part in
    let short : length l.rest.now < length c.part-item.result = subst (λ n. length l.rest.now < n) c.len.ensures c.if-len-rest.true in (
      λ no. absurd (false≢true no),
      λ same. absurd (part_too_long c.deref-part-items.result.now l.part-index c.part-item.result l.rest.now c.args.b.now c.loop-part-test.true c.part-item.is l.invariant short
          (ap joined c.deref-part-items.ensures.value ∙ c.a.view_is ∙ same)),
    )

pub equal_members-returns-then-not-equal_member_part : goal.equal_members-returns-then-not-equal_member_part
equal_members-returns-then-not-equal_member_part t c =
    let l = c.loop-part in
    let here : c.split_at.result.0.now ≡ take (length c.part-item.result) l.rest.now = c.split_at.ensures.front ∙ ap (λ n. take n l.rest.now) c.len-in-loop-part.ensures in (
      λ no. absurd (false≢true no),
      λ same. c.if-not-equal_member_part.ensures.1 (part_differs c.deref-part-items.result.now l.part-index c.part-item.result l.rest.now c.args.b.now c.loop-part-test.true c.part-item.is l.invariant
          (ap joined c.deref-part-items.ensures.value ∙ c.a.view_is ∙ same) ∙ sym here),
    )

pub equal_members-returns : goal.equal_members-returns
equal_members-returns t c =
    let l = c.loop-part in
    let both = agree_to_end c.deref-part-items.result.now l.part-index l.rest.now c.args.b.now c.loop-part-test.false l.invariant in
    let whole = ap joined c.deref-part-items.ensures.value ∙ c.a.view_is in
    let none = none_left l.rest.now in (
      λ yes. sym whole ∙ both.0 (none.0 (sym c.is_empty.ensures ∙ yes)),
      λ same. c.is_empty.ensures ∙ none.1 (both.1 (whole ∙ same)),
    )

pub equal_member_part-loop-i-preserved : goal.equal_member_part-loop-i-preserved
equal_member_part-loop-i-preserved t c =
    let within = subst (λ n. c.loop-i.i < n) (c.len-i-end.ensures ∙ c.a.inside.all.ok.0) c.loop-i-test.true in
    let long : length c.a.inside.all.items ≡ length c.args.b.now = sym c.a.inside.all.ok.0 ∙ sym c.len.ensures ∙ c.if-len-b.false in
    agree-more c.a.inside.all.items c.args.b.now c.loop-i.i c.index.result.now c.index-b-i.result within long c.index.ensures c.index-b-i.is c.loop-i.invariant (c.equal_member.ensures.0 c.if-not-equal_member.false)

pub equal_member_part-returns : goal.equal_member_part-returns
equal_member_part-returns t c =
    let long : length c.a.inside.all.items ≡ length c.args.b.now = sym c.a.inside.all.ok.0 ∙ sym c.len.ensures ∙ c.if-len-b.false in
    let end = subst (λ n. n ≤ c.loop-i.i) (c.len-i-end.ensures ∙ c.a.inside.all.ok.0) c.loop-i-test.false in
    let all = sym c.a.view_is ∙ agree-whole c.a.inside.all.items c.args.b.now c.loop-i.i end long c.loop-i.invariant in (λ _. all, λ _. refl)

pub equal_member_part-returns-then-not-equal_member : goal.equal_member_part-returns-then-not-equal_member
equal_member_part-returns-then-not-equal_member t c =
    let within = subst (λ n. c.loop-i.i < n) (c.len-i-end.ensures ∙ c.a.inside.all.ok.0) c.loop-i-test.true in
    let long : length c.a.inside.all.items ≡ length c.args.b.now = sym c.a.inside.all.ok.0 ∙ sym c.len.ensures ∙ c.if-len-b.false in
    subst (λ xs. IsTrue false ↔ (xs ≡ c.args.b.now)) c.a.view_is
    (differ-at c.a.inside.all.items c.args.b.now c.loop-i.i c.index.result.now c.index-b-i.result within long c.index.ensures c.index-b-i.is c.if-not-equal_member.ensures.1)
