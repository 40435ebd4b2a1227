-- What the log tells nothing of, and the words that its texts have in common.
use Rattle.std.specs.Prelude.{◌≡◌, ◌<◌, ◌⊎◌, ℕ, List, [], Option, Some, None, Any, codes, decimal, slice_get}
use Rattle.audit_event.specs.declared.event.Event.{Event}
use Rattle.base_types.specs.Escapes.{escaped}
use Rattle.base_types.specs.declared.kubernetes.key.ObjectKey.{ObjectKey}
use Rattle.base_types.specs.Meaning.{Meaning}
use Rattle.base_types.specs.Values.{data_of}
use Rattle.object_past.specs.declared.version.Maker.{Maker}
use Rattle.object_past.specs.declared.version.Maker.TheVariants as maker
use Rattle.serde_json.specs.Written.{compact_text}
use Rattle.setup_file.specs.declared.setup.Setup.{Setup}
use Rattle.verdict_text.specs.Words.{ended}
use Rattle.log_context.specs.Known.{Known}
use Rattle.write_groups.specs.Lines.{line_at}
use Rattle.write_groups.specs.declared.event.LogEvent.{LogEvent}

-- the setup names the key's group and resource
abbrev pub IsTracked : Setup → ObjectKey → Type 0
IsTracked setup key = Any (λ tracked. (tracked.group ≡ key.group) × (tracked.resource ≡ key.resource)) setup.resources

-- the log begins above the place
abbrev pub IsBelowStart : Known → ℕ → Type 0
IsBelowStart known place = place < known.setup.start

-- the log tells nothing of such an object, or of this place
abbrev pub IsUntold : Known → ObjectKey → ℕ → Type 0
IsUntold known key place = IsBelowStart known place ⊎ (IsTracked known.setup key → ⊥)

abbrev pub unknown_text : List ℕ
unknown_text = ended (codes "unknown")

-- `unknown` where nothing is told, else such a text
pub data IsToldText (untold : Type 0) (Is : List ℕ → Type 0) (text : List ℕ) : Type 0 where
  nothing : untold → text ≡ unknown_text → IsToldText untold Is text
  something : (untold → ⊥) → Is text → IsToldText untold Is text

-- the compact JSON text of a tree (RFC 8259)
abbrev pub json_text : Meaning → List ℕ
json_text tree = compact_text (data_of tree)

abbrev pub json_or_nothing : Option Meaning → List ℕ
json_or_nothing None = []
json_or_nothing (Some tree) = json_text tree

-- that of the tree of this number
abbrev pub json_at : List Meaning → ℕ → List ℕ
json_at trees number = json_or_nothing (slice_get trees number)

-- the line of the write that made a version, `snapshot` or `unknown`
abbrev pub who_text : List LogEvent → Maker → List ℕ
who_text log maker.Snapshot = codes "snapshot"
who_text log (maker.Event number) = decimal (line_at log number)
who_text log maker.Unknown = codes "unknown"

abbrev pub user_or_none : Option Event → List ℕ
user_or_none None = codes "-"
user_or_none (Some event) = escaped event.user.name

-- who authenticated for that write, or `-` where no line tells of it
abbrev pub user_text : List Event → Maker → List ℕ
user_text events maker.Snapshot = codes "-"
user_text events (maker.Event number) = user_or_none (slice_get events number)
user_text events maker.Unknown = codes "-"
