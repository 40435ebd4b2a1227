use Rattle.std.proofs.Common.{◌≡◌, ◌<◌, ℕ, Some, None, Option, IfSome, option_map, slice_get, length, refl, sym, ap, ◌∙◌}
use Rattle.std.proofs.lemmas.Option.{slice_get_read}
use Rattle.node_number.specs.declared.node.NodeId.{NodeId}
use Rattle.write_groups.specs.Modelled.{answer_of}
use Rattle.write_groups.specs.declared.event.LogEvent.{LogEvent}
use Rattle.log_context.proofs.ShownTrees.{logged_within}
use Rattle.log_context.specs.Answered.{shown_trees}
use Rattle.log_context.proofs.context.Context.shown.Goals as goal

if_within : (found : Option NodeId) (bound : ℕ) → ((n : ℕ) → option_map (λ (node : NodeId). node.0) found ≡ Some n → n < bound) → IfSome found (λ node. node.0 < bound)
if_within None bound h = tt
if_within (Some node) bound h = h node.0 refl

pub returns-clause-within : goal.returns-clause-within
returns-clause-within c =
    let log = c.self.inside.log.events in
    let found = c.index-as_slice-event.result in
    let at : slice_get log c.args.event ≡ Some found = slice_get_read log (length log) c.args.event found refl (rw (← c.self.view_is) at c.requires) (rw c.as_slice.ensures at c.index-as_slice-event.is) in
    let shows : option_map (λ (node : NodeId). node.0) c.shown_in.result ≡ slice_get (shown_trees (answer_of found.answer)) c.args.item =
    c.shown_in.ensures ∙ ap (λ (e : LogEvent). slice_get (shown_trees (answer_of e.answer)) c.args.item) (sym c.index-as_slice-event.is) in
    rw (← c.self.view_is) (if_within c.shown_in.result (length c.self.inside.pool.trees)
    (λ n is. logged_within c.self.inside.setup c.self.inside.pool.trees c.self.inside.events log c.self.invariant.logged.logged c.args.event found at c.args.item n (sym shows ∙ is)))
