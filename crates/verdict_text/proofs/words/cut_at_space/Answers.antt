use Rattle.std.proofs.Common.{arith}
use Rattle.verdict_text.proofs.CutFacts.{split_joined, split_whole, split_none}
use Rattle.verdict_text.proofs.words.cut_at_space.Goals as goal

pub returns-clause-some : goal.returns-clause-some
returns-clause-some c = split_joined 32 c.args.text.now c.split_once.result (omega arith) c.split_once.ensures.cases

pub returns-clause-whole : goal.returns-clause-whole
returns-clause-whole c = split_whole 32 c.args.text.now c.split_once.result (omega arith) c.split_once.ensures.cases

pub returns-clause-none : goal.returns-clause-none
returns-clause-none c = split_none 32 c.args.text.now c.split_once.result (omega arith) c.split_once.ensures.cases
