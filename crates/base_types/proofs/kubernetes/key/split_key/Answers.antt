use Rattle.base_types.proofs.KeyLemmas.{no_key_0, no_key_1, no_key_2, joined_from_cuts, none_anyway}
use Rattle.base_types.proofs.kubernetes.key.split_key.Goals as goal

pub returns-in_err-group-clause-none : goal.returns-in_err-group-clause-none
returns-in_err-group-clause-none c = none_anyway _ _ (no_key_0 c.args.word.now c.in_err-group.ensures.none)

pub returns-in_err-resource-clause-none : goal.returns-in_err-resource-clause-none
returns-in_err-resource-clause-none c =
    none_anyway _ _ (no_key_1 c.args.word.now _ c.in_ok-group.rest.now c.in_ok-group.ensures.some c.in_err-resource.ensures.none)

pub returns-in_err-namespace-clause-none : goal.returns-in_err-namespace-clause-none
returns-in_err-namespace-clause-none c =
    none_anyway _ _ (no_key_2 c.args.word.now _ c.in_ok-group.rest.now _ c.in_ok-resource.rest.now c.in_ok-group.ensures.some c.in_ok-resource.ensures.some c.in_err-namespace.ensures.none)

pub returns-clause-some : goal.returns-clause-some
returns-clause-some c =
    joined_from_cuts c.args.word.now _ c.in_ok-group.rest.now _ c.in_ok-resource.rest.now _ _ c.in_ok-group.ensures.some c.in_ok-resource.ensures.some c.in_ok-namespace.ensures.some
