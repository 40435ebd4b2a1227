use Rattle.std.proofs.Common.{◌≡◌, ◌+◌, ◌++◌, get_or, drop, Less, sym, ap, subst, ◌∙◌, arith, nat_cmp}
use Rattle.std.specs.Cmp.Lexicographic.{slice_cmp}
use Rattle.merge_patch.specs.Walking.{AllBelow}
use Rattle.merge_patch.proofs.Steps.{all_below_snoc, kept_more, same_item}
use Rattle.merge_patch.proofs.merging.copy_below.Goals as goal

pub loop-next-preserved : goal.loop-next-preserved
loop-next-preserved c =
    let l = c.loop-next in
    let m = c.in_ok-copy_member.field-0 in
    let same : m ≡ c.index-old-next-in-loop-next.result = c.in_ok-copy_member.ensures in
    let read : m ≡ get_or c.args.old.now l.next m = subst (λ x. x ≡ get_or c.args.old.now l.next x) (sym same) c.index-old-next-in-loop-next.is in
    let before : slice_cmp nat_cmp m.0 c.args.name.now ≡ Less =
    subst (λ x. slice_cmp nat_cmp x.0 c.args.name.now ≡ Less) (same_item c.args.old.now l.next c.index-old-next.result m c.loop-next-test.true c.index-old-next.is read) (c.is_before.ensures.0 c.if-is_before.true) in
    record {
      within = omega arith;
      kept = ap (λ all. all ++ drop (l.next + 1) c.args.old.now) c.in_ok-push.ensures.items ∙ kept_more l.all.items c.args.old.now l.next m c.loop-next-test.true read ∙ l.invariant.kept;
      below = λ all. subst (AllBelow c.args.name.now) (sym c.in_ok-push.ensures.items) (all_below_snoc c.args.name.now l.all.items m (l.invariant.below all) before);
    }
