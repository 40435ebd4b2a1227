use Rattle.std.proofs.Common.{◌≡◌, ◌-◌, ◌∙◌, arith, length}
use Rattle.packed_tree.proofs.FrameLemmas.{short_frame, long_frame}
use Rattle.packed_tree.proofs.framing.close_frame.Goals as goal

pub returns-then-len-lt128 : goal.returns-then-len-lt128
returns-then-len-lt128 c =
    let held = c.args.out.now.items in
    let is : c.len.result - c.args.at - 1 ≡ length held - c.args.at - 1 = omega (arith, c.len.ensures) in
    short_frame held c.args.at (c.len.result - c.args.at - 1) c.requires is c.if-len-lt128.true

pub returns : goal.returns
returns c =
    let held = c.args.out.now.items in
    let is : c.len.result - c.args.at - 1 ≡ length held - c.args.at - 1 = omega (arith, c.len.ensures) in
    c.in_ok-put_number.ensures ∙ long_frame held c.args.at (c.len.result - c.args.at - 1) c.requires is c.if-len-lt128.false
