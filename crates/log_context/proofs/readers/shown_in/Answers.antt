use Rattle.std.proofs.Common.{Some, option_map, slice_get, length, refl, ap, sym, ◌≡◌, ◌∙◌}
use Rattle.std.proofs.lemmas.Option.{slice_get_read}
use Rattle.write_groups.specs.declared.event.Item.{Item}
use Rattle.log_context.proofs.ShownTrees.{listed_at}
use Rattle.log_context.proofs.readers.shown_in.Goals as goal

pub returns-in_ok-get-in-Listed : goal.returns-in_ok-get-in-Listed
returns-in_ok-get-in-Listed c =
    let items = c.in-Listed.listing.items in
    let lookup = rw c.as_slice.ensures at c.in_ok-get-in-Listed.ensures.lookup in
    let at : slice_get items c.args.item ≡ Some c.in_ok-get-in-Listed.field-0.now = slice_get_read items (length items) c.args.item c.in_ok-get-in-Listed.field-0.now refl lookup.3.0 lookup.1 in
    rw c.in-Listed.is (ap (option_map (λ (item : Item). item.node.0)) (sym at) ∙ listed_at c.in-Listed.listing.items c.args.item)
