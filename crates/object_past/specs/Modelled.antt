-- Versions and removals in the terms of the model of history.
use Rattle.history_model.specs.Histories as past
use Rattle.object_past.specs.declared.removal.Removal.{Removal}
use Rattle.object_past.specs.declared.version.Maker.{Maker}
use Rattle.object_past.specs.declared.version.Maker.TheVariants.{Snapshot, Event, Unknown}
use Rattle.object_past.specs.declared.version.Version.{Version}

abbrev pub maker_of : Maker → past.Maker
maker_of Snapshot = past.Snapshot
maker_of (Event number) = past.ByEvent number
maker_of Unknown = past.Unknown

abbrev pub version_of : Version → past.Version
version_of v = record { key = v.key; revision = v.revision; uid = v.uid; tree = v.node.0; maker = maker_of v.maker }

-- the removal in the terms of the model of history
abbrev pub recorded : Removal → past.Removal
recorded removal = record { key = removal.key; uid = removal.uid; last = removal.last; range = removal.range }
