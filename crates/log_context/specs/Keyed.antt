-- The keys that a log tells of.
use Rattle.std.specs.Prelude.{◌≡◌, ◌⊎◌, ◌↔◌, List, Any, Contains}
use Rattle.base_types.specs.Covers.{NamesExactly}
use Rattle.base_types.specs.declared.kubernetes.key.Cover.{Cover}
use Rattle.base_types.specs.declared.kubernetes.key.ObjectKey.{ObjectKey}
use Rattle.object_past.specs.Indexed.{HasVersion}
use Rattle.object_past.specs.Scopes.{AreInOrder}
use Rattle.object_past.specs.declared.version.Version.{Version}
use Rattle.write_groups.specs.declared.event.LogEvent.{LogEvent}
use Rattle.write_groups.specs.declared.event.Shown.TheVariants.{Opaque}

-- the cover of an unrecorded write names the key exactly
abbrev pub IsNamedBy : ObjectKey → LogEvent → Type 0
IsNamedBy key event = (cover : Cover) × (event.answer ≡ Opaque cover) × NamesExactly cover key

-- there is a version of it, or an unrecorded write names it
abbrev pub IsToldOfKey : List Version → List LogEvent → ObjectKey → Type 0
IsToldOfKey versions log key = HasVersion versions key ⊎ Any (IsNamedBy key) log

-- all of them, in their order
pub record AreKeys (versions : List Version) (log : List LogEvent) (keys : List ObjectKey) : Type 0 where
  pub order : AreInOrder keys
  pub exact : (key : ObjectKey) → Contains keys key ↔ IsToldOfKey versions log key
