use Rattle.std.proofs.Common.{◌∙◌, ap, sym}
use Rattle.std.specs.Prelude.{option_and_then, slice_get}
use Rattle.base_types.specs.Pointers.{index_of}
use Rattle.node_pool.specs.Flat.{flat_of}
use Rattle.node_pool.proofs.Looks.{StandsAt, item-found, item-within}
use Rattle.node_pool.proofs.pointing.child.Goals as goal

pub returns-in-Items-clause-found : goal.returns-in-Items-clause-found
returns-in-Items-clause-found c =
    let s = c.args.store.now in
    let level = c.in_ok-numbers.field-0.now in
    let stands : StandsAt s.names s.trees c.args.number level = record { tree = c.in_ok-numbers.ensures.tree; before = c.in_ok-numbers.ensures.before } in
    item-found s.names s.trees c.args.number level c.in-Items.numbers.items c.args.token.now c.item.result stands (sym c.branch.view_is ∙ ap flat_of c.in-Items.is)
    (c.item.ensures ∙ ap (λ token. option_and_then (slice_get c.in-Items.numbers.items) (index_of token)) c.as_str.ensures.value)

pub returns-in-Items-clause-within : goal.returns-in-Items-clause-within
returns-in-Items-clause-within c =
    let s = c.args.store.now in
    let level = c.in_ok-numbers.field-0.now in
    let stands : StandsAt s.names s.trees c.args.number level = record { tree = c.in_ok-numbers.ensures.tree; before = c.in_ok-numbers.ensures.before } in
    item-within s.names s.trees c.args.number level c.in-Items.numbers.items c.args.token.now c.item.result stands (sym c.branch.view_is ∙ ap flat_of c.in-Items.is)
    (c.item.ensures ∙ ap (λ token. option_and_then (slice_get c.in-Items.numbers.items) (index_of token)) c.as_str.ensures.value)
