use Rattle.std.proofs.Common.{rules}
use Rattle.std.proofs.lemmas.Fn.{filter_same}
use Rattle.base_types.specs.Stored.{is_other}
use Rattle.base_types.proofs.json.stored.keep_others.Goals as goal

pub returns : goal.returns
returns c = filter_same _ (is_other c.args.name.now) _ (λ x b f' k. search rules) _ _ c.retain.ensures.filtered
