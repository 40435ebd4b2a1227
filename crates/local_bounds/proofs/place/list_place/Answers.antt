use Rattle.std.proofs.Common.{sym, ◌∙◌}
use Rattle.std.proofs.lemmas.Bool.{both_ways}
use Rattle.history_model.specs.Bounding.{SomewhereIn}
use Rattle.history_model.specs.Right.{IsListRight}
use Rattle.history_model.specs.States.{state}
use Rattle.write_groups.specs.Modelled.{listing_of}
use Rattle.local_bounds.proofs.Holding.{holds_all}
use Rattle.local_bounds.proofs.Places.{only_place}
use Rattle.local_bounds.proofs.place.list_place.Goals as goal

pub returns-then-holds : goal.returns-then-holds
returns-then-holds g c = λ h k s chosen. only_place (λ x. IsListRight h c.args.number (listing_of c.args.listing.now) x (state h c.args.choice.now x)) c.args.window.low c.args.window.high c.get.result
    (λ x right. right.at_revision ∙ sym c.get.ensures.value)
    ((holds_all h (λ choice. SomewhereIn c.args.window.low c.args.window.high (λ x. IsListRight h c.args.number (listing_of c.args.listing.now) x (state h choice x))) c.in_ok-asking.asking c.args.choice.now chosen
    (c.in_ok-asking.ensures h k s)).0 (c.holds.ensures.0 c.if-holds.true))

pub returns : goal.returns
returns g c = λ h k s chosen place from upto right. both_ways _ c.if-holds.false (c.holds.ensures.1
    ((holds_all h (λ choice. SomewhereIn c.args.window.low c.args.window.high (λ x. IsListRight h c.args.number (listing_of c.args.listing.now) x (state h choice x))) c.in_ok-asking.asking c.args.choice.now chosen
    (c.in_ok-asking.ensures h k s)).1 (place, from, upto, right)))
