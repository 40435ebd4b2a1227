use Rattle.std.proofs.Common.{◌≡◌, take}
use Rattle.history_model.specs.Histories.{History}
use Rattle.write_groups.specs.Modelled.{HasTimes}
use Rattle.past_building.specs.Hidden.{unrecorded_in}
use Rattle.past_building.proofs.hiding.unrecorded_of.Given as goal

abbrev pub invariant-loop-event : goal.invariant-loop-event
invariant-loop-event l = (h : History) → HasTimes l.windows h → l.spans.items ≡ unrecorded_in h (take l.event-index l.events)
