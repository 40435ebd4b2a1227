use Rattle.std.proofs.Common.{sym, ap, ◌∙◌}
use Rattle.std.specs.Prelude.{option_map}
use Rattle.base_types.specs.Meaning.{kids_of}
use Rattle.base_types.specs.Pointers.{index_of}
use Rattle.path_shape.specs.Forms.{thin}
use Rattle.path_shape.proofs.FormLemmas.{item-thin}
use Rattle.path_shape.proofs.part.item_of.Goals as goal

pub returns-in-Some-clause-form : goal.returns-in-Some-clause-form
returns-in-Some-clause-form c = sym (item-thin (index_of c.args.token.now) (kids_of c.args.list.now) ∙ ap (option_map thin) (sym c.in-Some.ensures))

pub returns-in-None-clause-form : goal.returns-in-None-clause-form
returns-in-None-clause-form c = sym (item-thin (index_of c.args.token.now) (kids_of c.args.list.now) ∙ ap (option_map thin) (sym c.in-None.ensures))
