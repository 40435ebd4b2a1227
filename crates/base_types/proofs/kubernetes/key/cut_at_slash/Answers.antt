use Rattle.base_types.proofs.KeyLemmas.{cut_from_split, whole_from_split}
use Rattle.base_types.proofs.kubernetes.key.cut_at_slash.Goals as goal

pub returns-clause-some : goal.returns-clause-some
returns-clause-some c = cut_from_split c.args.word.now c.split_once.result c.split_once.ensures.cases

pub returns-clause-none : goal.returns-clause-none
returns-clause-none c = whole_from_split c.args.word.now c.split_once.result c.split_once.ensures.cases
