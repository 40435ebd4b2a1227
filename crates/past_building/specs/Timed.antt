-- What is found of a log before any body is judged.
use Rattle.std.specs.Prelude.{◌≡◌, ℕ, List, map}
use Rattle.history_model.specs.Groups.{AreSpans}
use Rattle.history_model.specs.Histories.{History}
use Rattle.history_model.specs.Judging.{IsOrder}
use Rattle.write_groups.specs.Members.{AreGroupsOf}
use Rattle.write_groups.specs.Modelled.{HasEvents, HasTimes, span_of}
use Rattle.write_groups.specs.declared.event.Item.{Item}
use Rattle.write_groups.specs.declared.event.LogEvent.{LogEvent}
use Rattle.past_building.specs.Behind.{AreGroupsBehind}
use Rattle.past_building.specs.Hidden.{HasSlots, slots_of}
use Rattle.past_building.specs.Modelled.{AreCloudsOf}
use Rattle.past_building.specs.declared.timed.Timed.{Timed}

-- order, groups, windows and clouds are those of each history of the log that has them
pub record IsTimedOf (start : ℕ) (snapshot : List Item) (events : List LogEvent) (found : Timed) : Type 0 where
  -- the windows begin at the start
  pub begins : found.windows.start ≡ start
  -- the groups are of writes of the log, behind the start
  pub groups : AreGroupsBehind start events found.groups
  -- where a history has this order and these spans, they and the groups are the model's
  pub timed : (h : History) → HasEvents events h → h.start ≡ start → h.order ≡ found.order.items
      → h.spans ≡ map span_of found.windows.spans
      → IsOrder h × AreGroupsOf h found.groups × AreSpans h
  -- where a history has these windows, and versions at the snapshot's and the groups' revisions, so are the clouds
  pub clouds : (h : History) → HasTimes found.windows h → HasEvents events h
      → HasSlots (slots_of snapshot found.groups) h
      → AreCloudsOf found.clouds h
