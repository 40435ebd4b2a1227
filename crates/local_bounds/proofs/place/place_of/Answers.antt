use Rattle.std.proofs.Common.{◌⊎◌}
use Rattle.std.proofs.lemmas.Result.{IfOk-weaker}
use Rattle.history_model.specs.Clouds.{IsClouded}
use Rattle.history_model.specs.Right.{IsRight, IsListRight}
use Rattle.history_model.specs.States.{state}
use Rattle.write_groups.specs.Modelled.{event_of, listing_of}
use Rattle.local_bounds.specs.Sights.{IsSeen}
use Rattle.local_bounds.proofs.Holding.{right_list}
use Rattle.local_bounds.proofs.Places.{first_same, least_right}
use Rattle.local_bounds.proofs.place.place_of.Goals as goal

pub returns-in-Object : goal.returns-in-Object
returns-in-Object g c = λ h k s w f at chosen. least_right h c.args.number (event_of c.args.event.now) c.args.window w c.args.choice.now c.object_place.result
    (first_same (λ x. IsClouded h c.in-Object.key.now x ⊎ IsSeen c.in-Object.sight (state h c.args.choice.now x c.in-Object.key.now))
    (λ x. IsRight h c.args.number (event_of c.args.event.now) x (state h c.args.choice.now x)) c.args.window.low c.args.window.high c.object_place.result
    (λ x. let same = c.in-Object.ensures h c.args.number f x (state h c.args.choice.now x) in (same.1, same.0))
    (c.object_place.ensures h k chosen))

pub returns-in-List : goal.returns-in-List
returns-in-List g c = IfOk-weaker c.list_place.result _ _ (λ place first h k s w f at chosen. least_right h c.args.number (event_of c.args.event.now) c.args.window w c.args.choice.now place
    (first_same (λ x. IsListRight h c.args.number (listing_of c.in-List.listing.now) x (state h c.args.choice.now x))
    (λ x. IsRight h c.args.number (event_of c.args.event.now) x (state h c.args.choice.now x)) c.args.window.low c.args.window.high place
    (λ x. let same = right_list h c.args.number (event_of c.args.event.now) c.args.window w at (listing_of c.in-List.listing.now) (c.in-List.ensures h c.args.number f) c.args.choice.now x in (same.1, same.0))
    (first h k s chosen))) c.list_place.ensures

pub returns-in-Nothing : goal.returns-in-Nothing
returns-in-Nothing g c = λ h k s w f at chosen place i r. c.in-Nothing.ensures h c.args.number f at
