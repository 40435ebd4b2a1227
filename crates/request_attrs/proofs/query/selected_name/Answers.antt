use Rattle.std.proofs.Common.{◌≡◌, Some, None, rules, tests, sym, ap, ◌∙◌}
use Rattle.std.specs.List.{find}
use Rattle.std.proofs.lemmas.Iterator.{YieldsList-from_slice}
use Rattle.std.proofs.lemmas.Iterator.Search.{find_from_yields_List}
use Rattle.request_attrs.specs.Queries.{is_field_selector, name_in}
use Rattle.request_attrs.proofs.query.selected_name.Goals as goal

pub returns-in_err-selector : goal.returns-in_err-selector
returns-in_err-selector c =
    let found = find_from_yields_List is_field_selector _ _ c.find.result c.find.ensures.ran (YieldsList-from_slice c.args.query.now cc) (λ x b q k. search (rules, tests)) in
    let none : find is_field_selector c.args.query.now ≡ None = sym (rw c.in_err-selector.was at found) in
    rw (c.from_residual.ensures, none)

pub returns : goal.returns
returns c =
    let found = find_from_yields_List is_field_selector _ _ c.find.result c.find.ensures.ran (YieldsList-from_slice c.args.query.now cc) (λ x b q k. search (rules, tests)) in
    let some : find is_field_selector c.args.query.now ≡ Some c.in_ok-selector.selector.now = sym (rw c.in_ok-selector.was at found) in
    rw some (c.name_in.ensures ∙ ap name_in c.as_str.ensures.value)
