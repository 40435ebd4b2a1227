use Rattle.std.proofs.Common.{◌≡◌, length, Some, None, Ok, sym, ap, subst, ◌∙◌}
use Rattle.base_types.specs.Meaning.{items, kids_of}
use Rattle.json_patch.specs.Edits.{IsEdited}
use Rattle.json_patch.specs.Effects.{place_of}
use Rattle.json_patch.specs.declared.edit.Edit.TheVariants.{Add}
use Rattle.json_patch.proofs.Paths.{items_added, items_not_added}
use Rattle.json_patch.proofs.Sizes.{item_added}
use Rattle.json_patch.proofs.edit.add_item.Goals as goal

pub returns-in_ok-insert-in-Some-clause-done : goal.returns-in_ok-insert-in-Some-clause-done
returns-in_ok-insert-in-Some-clause-done c =
    let all = c.args.list.now in
    let place : place_of c.args.token.now (length all) ≡ Some c.in-Some.at = subst (λ n. place_of c.args.token.now n ≡ Some c.in-Some.at) c.in_ok-len.ensures.count (sym c.in-Some.ensures) in
    items_added c.args.token.now all c.in-Some.at c.args.value place ∙ ap (λ l. Ok (items (kids_of l))) (sym c.in_ok-insert-in-Some.ensures)

pub returns-in_ok-insert-in-Some-clause-size : goal.returns-in_ok-insert-in-Some-clause-size
returns-in_ok-insert-in-Some-clause-size c =
    let all = c.args.list.now in
    subst (λ l. IsEdited (Add c.args.value) 1 (items (kids_of all)) (items (kids_of l)) None) (sym c.in_ok-insert-in-Some.ensures) (item_added all c.in-Some.at c.args.value)

pub returns-in-None-clause-refused : goal.returns-in-None-clause-refused
returns-in-None-clause-refused c =
    let all = c.args.list.now in
    let place : place_of c.args.token.now (length all) ≡ None = subst (λ n. place_of c.args.token.now n ≡ None) c.in_ok-len.ensures.count (sym c.in-None.ensures) in
    items_not_added c.args.token.now all c.args.value place
