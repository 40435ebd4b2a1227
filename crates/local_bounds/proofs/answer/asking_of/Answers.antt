use Rattle.std.proofs.Common.{◌⊎◌, sym, subst}
use Rattle.std.proofs.lemmas.Result.{IfOk-weaker}
use Rattle.history_model.specs.Clouds.{IsClouded}
use Rattle.history_model.specs.Right.{IsListRight}
use Rattle.history_model.specs.States.{state}
use Rattle.write_groups.specs.Modelled.{event_of, listing_of}
use Rattle.local_bounds.specs.Asked.{IsAskingOf, asking_from}
use Rattle.local_bounds.specs.Sights.{IsSeen}
use Rattle.local_bounds.proofs.Holding.{key_whole, asking_by, right_list}
use Rattle.local_bounds.proofs.answer.asking_of.Goals as goal

pub returns-in-Object : goal.returns-in-Object
returns-in-Object g c = IfOk-weaker c.asking_from.result _ _ (λ asking e h k s w f at. subst (λ a. IsAskingOf h c.args.number (event_of c.args.event.now) a) (sym e)
    (asking_by h c.args.number (event_of c.args.event.now) c.args.window w at (λ choice x. IsClouded h c.in-Object.key.now x ⊎ IsSeen c.in-Object.sight (state h choice x c.in-Object.key.now)) (asking_from c.object_asking.result)
    (λ choice x. c.in-Object.ensures h c.args.number f x (state h choice x))
    (key_whole h c.in-Object.key.now _ c.object_asking.result (c.object_asking.ensures h k)))) c.asking_from.ensures

pub returns-in-List : goal.returns-in-List
returns-in-List g c = IfOk-weaker c.list_asking.result _ _ (λ asking a h k s w f at.
    asking_by h c.args.number (event_of c.args.event.now) c.args.window w at (λ choice x. IsListRight h c.args.number (listing_of c.in-List.listing.now) x (state h choice x)) asking
    (right_list h c.args.number (event_of c.args.event.now) c.args.window w at (listing_of c.in-List.listing.now) (c.in-List.ensures h c.args.number f)) (a h k s)) c.list_asking.ensures

pub returns-in-Nothing : goal.returns-in-Nothing
returns-in-Nothing g c = λ h k s w f at choice chosen t. absurd (c.in-Nothing.ensures h c.args.number f t)
