use Rattle.std.proofs.Common.{length, sym, ◌∙◌, arith}
use Rattle.path_shape.proofs.PassLemmas.{of_another_length, last_depth}
use Rattle.path_shape.proofs.live.ends_under.Goals as goal

pub returns-then-saturating_sub-depth : goal.returns-then-saturating_sub-depth
returns-then-saturating_sub-depth c =
    let way = c.args.way.now in
    let tokens = c.args.tokens.now in
    sym (of_another_length c.args.name.now way tokens
    (λ longer. c.if-saturating_sub-depth.true (c.saturating_sub.ensures ∙ last_depth (length tokens) (length way) c.args.depth c.requires longer (omega arith))))
