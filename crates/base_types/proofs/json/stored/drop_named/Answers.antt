use Rattle.std.proofs.Common.{ap, ◌∙◌}
use Rattle.base_types.specs.Meaning.{fields_of}
use Rattle.base_types.specs.Stored.{fields_without}
use Rattle.base_types.proofs.Removing.{sorted_others, fields_of-filter}
use Rattle.base_types.proofs.json.stored.drop_named.Goals as goal

pub invariant_of-list : goal.invariant_of-list
invariant_of-list c = rw c.keep_others.ensures (sorted_others c.args.name.now c.list.inside.all.items c.list.invariant)

pub returns : goal.returns
returns c = ap fields_of c.keep_others.ensures ∙ fields_of-filter c.args.name.now c.list.inside.all.items ∙ ap (λ ms. fields_without c.args.name.now (fields_of ms)) c.list.view_is
