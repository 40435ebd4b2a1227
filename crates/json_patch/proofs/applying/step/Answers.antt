use Rattle.std.proofs.Common.{◌≤◌, sym, ap, subst, ◌∙◌, rules}
use Rattle.json_patch.specs.Changes.{IsWithin, Tells}
use Rattle.json_patch.specs.Effects.{and_then}
use Rattle.json_patch.specs.Limits.{depth, values, within_limits}
use Rattle.json_patch.proofs.Counting.{tells_size, too_deep, too_large, fits, small_depth, small_values}
use Rattle.json_patch.proofs.applying.step.Goals.{in-Some, in-None}
use Rattle.json_patch.proofs.applying.step.Goals as goal

pub returns-then-size-gt-MAX_DEPTH-clause-refused : goal.returns-then-size-gt-MAX_DEPTH-clause-refused
returns-then-size-gt-MAX_DEPTH-clause-refused c =
    let told : Tells c.make.new.tree c.match-known.size = elim c.match-known.branch [
      | in-Some w ↦ let known : IsWithin c.args.tree.now w.in-Some.count = search rules in subst (Tells c.make.new.tree) (sym w.size-is) (w.size_after-size.ensures c.args.tree.now c.make.new.tree known c.in_ok-change.ensures.change)
      | in-None w ↦ subst (Tells c.make.new.tree) (sym w.size-is) (tells_size c.make.new.tree w.size_of-size.result w.size_of-size.ensures.values w.size_of-size.ensures.depth)
    ] in
    ap (λ r. and_then r within_limits) c.in_ok-change.ensures.done ∙ too_deep c.make.new.tree (told.deep.0 c.if-size-gt-MAX_DEPTH.true)

pub returns-then-size-gt-MAX_VALUES-clause-refused : goal.returns-then-size-gt-MAX_VALUES-clause-refused
returns-then-size-gt-MAX_VALUES-clause-refused c =
    let told : Tells c.make.new.tree c.match-known.size = elim c.match-known.branch [
      | in-Some w ↦ let known : IsWithin c.args.tree.now w.in-Some.count = search rules in subst (Tells c.make.new.tree) (sym w.size-is) (w.size_after-size.ensures c.args.tree.now c.make.new.tree known c.in_ok-change.ensures.change)
      | in-None w ↦ subst (Tells c.make.new.tree) (sym w.size-is) (tells_size c.make.new.tree w.size_of-size.result w.size_of-size.ensures.values w.size_of-size.ensures.depth)
    ] in
    let shallow : depth c.make.new.tree ≤ 127 = small_depth c.make.new.tree c.match-known.size told c.if-size-gt-MAX_DEPTH.false in
    ap (λ r. and_then r within_limits) c.in_ok-change.ensures.done ∙ too_large c.make.new.tree shallow (told.large.0 c.if-size-gt-MAX_VALUES.true)

pub returns-clause-done : goal.returns-clause-done
returns-clause-done c =
    let told : Tells c.make.new.tree c.match-known.size = elim c.match-known.branch [
      | in-Some w ↦ let known : IsWithin c.args.tree.now w.in-Some.count = search rules in subst (Tells c.make.new.tree) (sym w.size-is) (w.size_after-size.ensures c.args.tree.now c.make.new.tree known c.in_ok-change.ensures.change)
      | in-None w ↦ subst (Tells c.make.new.tree) (sym w.size-is) (tells_size c.make.new.tree w.size_of-size.result w.size_of-size.ensures.values w.size_of-size.ensures.depth)
    ] in
    let shallow : depth c.make.new.tree ≤ 127 = small_depth c.make.new.tree c.match-known.size told c.if-size-gt-MAX_DEPTH.false in
    let small : values c.make.new.tree ≤ 1_000_000 = small_values c.make.new.tree c.match-known.size told c.if-size-gt-MAX_VALUES.false in
    ap (λ r. and_then r within_limits) c.in_ok-change.ensures.done ∙ fits c.make.new.tree shallow small

pub returns-clause-known : goal.returns-clause-known
returns-clause-known c =
    let told : Tells c.make.new.tree c.match-known.size = elim c.match-known.branch [
      | in-Some w ↦ let known : IsWithin c.args.tree.now w.in-Some.count = search rules in subst (Tells c.make.new.tree) (sym w.size-is) (w.size_after-size.ensures c.args.tree.now c.make.new.tree known c.in_ok-change.ensures.change)
      | in-None w ↦ subst (Tells c.make.new.tree) (sym w.size-is) (tells_size c.make.new.tree w.size_of-size.result w.size_of-size.ensures.values w.size_of-size.ensures.depth)
    ] in
    let small : values c.make.new.tree ≤ 1_000_000 = small_values c.make.new.tree c.match-known.size told c.if-size-gt-MAX_VALUES.false in
    record {
      counted = told.counted small;
      small = small;
      shallow = small_depth c.make.new.tree c.match-known.size told c.if-size-gt-MAX_DEPTH.false;
    }
