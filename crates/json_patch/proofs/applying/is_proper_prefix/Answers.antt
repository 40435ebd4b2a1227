use Rattle.std.proofs.Common.{◌∙◌, sym, arith}
use Rattle.json_patch.proofs.Prefixes.{no_longer, longer}
use Rattle.json_patch.proofs.applying.is_proper_prefix.Goals as goal

pub returns-then-from-path : goal.returns-then-from-path
returns-then-from-path c = sym (no_longer c.args.from.now c.args.path.now c.if-from-path.true)

pub returns : goal.returns
returns c = c.starts_with.ensures.value ∙ sym (longer c.args.from.now c.args.path.now (let h = c.if-from-path.false in omega arith))
