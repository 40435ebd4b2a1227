use Rattle.std.proofs.Common.{codes, sym, ◌∙◌}
use Rattle.rbac_rules.proofs.Texts.{whole_named, no_items, differs}
use Rattle.rbac_rules.proofs.granting.names_resource.Goals as goal

pub returns-then-is_empty : goal.returns-then-is_empty
returns-then-is_empty c =
    let empty = sym c.as_str-subresource.ensures.value ∙ no_items c.as_str-subresource.result.now (sym c.is_empty.ensures ∙ c.if-is_empty.true) in
    let other = differs c.args.entry.now (codes "*") c.eq.result c.eq.ensures c.if-eq.false in
    whole_named c.args.attrs.now c.args.entry.now c.as_str-resource.result.now c.eq-then-is_empty.result empty other c.as_str-resource.ensures.value c.eq-then-is_empty.ensures
