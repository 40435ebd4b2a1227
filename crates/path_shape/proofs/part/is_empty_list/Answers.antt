use Rattle.std.proofs.Common.{◌<◌, length, subst, sym, ◌∙◌, arith}
use Rattle.path_shape.proofs.FormLemmas.{some_items}
use Rattle.path_shape.proofs.part.is_empty_list.Goals as goal

pub returns-in-len1-up : goal.returns-in-len1-up
returns-in-len1-up c = sym (some_items c.args.list.now (subst (λ ts. 0 < length ts) (c.as_slice.ensures.value ∙ c.list.view_is) (omega arith)))
