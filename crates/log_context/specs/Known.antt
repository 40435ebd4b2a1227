-- What a context holds: the setup and the log, and what is found of them.
use Rattle.std.specs.Prelude.{ℕ, List, filter}
use Rattle.audit_event.specs.declared.event.Event.{Event}
use Rattle.base_types.specs.Keys.{same_key}
use Rattle.base_types.specs.Meaning.{Meaning}
use Rattle.base_types.specs.declared.kubernetes.key.ObjectKey.{ObjectKey}
use Rattle.object_past.specs.declared.removal.Removal.{Removal}
use Rattle.object_past.specs.declared.version.Version.{Version}
use Rattle.rbac_timeline.specs.Known as rbac
use Rattle.setup_file.specs.declared.setup.Setup.{Setup}
use Rattle.time_windows.specs.declared.span.Span.{Span}
use Rattle.write_groups.specs.declared.event.Item.{Item}
use Rattle.write_groups.specs.declared.event.LogEvent.{LogEvent}
use Rattle.write_groups.specs.declared.groups.Group.{Group}

pub record Known : Type 0 where
  pub setup : Setup
  pub events : List Event
  -- the trees of the answers and of the snapshot, each once; elsewhere a tree is its number in this list
  pub trees : List Meaning
  pub snapshot : List Item
  -- the events by line, and the checkpoints behind them
  pub log : List LogEvent
  pub order : List ℕ
  pub groups : List Group
  pub spans : List Span
  pub versions : List Version
  pub removals : List Removal
  -- the roles and bindings among the versions
  pub rbac : rbac.Known

-- the key's versions, which come by revision
abbrev pub versions_of : Known → ObjectKey → List Version
versions_of known key = filter (λ v. same_key v.key key) known.versions
