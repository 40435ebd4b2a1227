-- Versions, makings and removals in the terms of the model of history.
use Rattle.std.specs.Prelude.{◌↔◌, ℕ}
use Rattle.base_types.specs.declared.verdict.claim.Range.{Range}
use Rattle.base_types.specs.declared.kubernetes.key.ObjectKey.{ObjectKey}
use Rattle.clouds.specs.Clouds as cloud
use Rattle.clouds.specs.Writes.{Writes}
use Rattle.history_model.specs.Clouds.{IsClouded, MayBeUnrecorded}
use Rattle.history_model.specs.Groups as model
use Rattle.history_model.specs.Histories as past
use Rattle.write_groups.specs.Modelled.{event_of, item_of}
use Rattle.past_building.specs.declared.making.Making.{Making}
use Rattle.object_past.specs.declared.version.Version.{Version}

-- the removal of the version's object at a place of the range
abbrev pub removal_of : Version → Range → past.Removal
removal_of v range = record { key = v.key; uid = v.uid; last = v.revision; range = range }

abbrev pub making_of : Making → model.Making
making_of m = record { number = m.number; event = event_of m.event.now; item = item_of m.item.now; created = m.created }

-- the clouds are those of the history
pub record AreCloudsOf (writes : Writes) (h : past.History) : Type 0 where
  pub clouded : (key : ObjectKey) (place : ℕ) → cloud.IsClouded writes key place ↔ IsClouded h key place
  pub unrecorded : (key : ObjectKey) (revision : ℕ) → cloud.MayBeUnrecorded writes key revision ↔ MayBeUnrecorded h key revision
