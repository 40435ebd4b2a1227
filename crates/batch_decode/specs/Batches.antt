-- The events of a line and how many numbers of the log it takes, one line after another.
use Rattle.std.specs.Prelude.{◌≡◌, ℕ, ◌≤◌, ◌<◌, max, Bool, List, [], length, Option, Some, IfSome, IfNone, All, slice_get, ◌⊎◌}
use Rattle.serde_json.specs.Data.{Data}
use Rattle.line_reader.specs.declared.line.Line.{Line}
use Rattle.audit_event.specs.declared.event.Event.{Event}
use Rattle.audit_event.specs.declared.fault.Malformed.TheVariants.{M1}
use Rattle.audit_event.specs.Events.{IsEventOf, IsJson, IsValueOf, IsSound}
use Rattle.audit_event.specs.Rules.{IsFirstBroken}
use Rattle.batch_decode.specs.declared.decoded.Decoded.{Decoded}
use Rattle.batch_decode.specs.declared.decoded.ItemFault.{ItemFault}
use Rattle.batch_decode.specs.Lists.{list_items, heading_of, values_of}

-- an item that breaks this rule first stands behind the events
pub record IsFaultBehind (heading : Data → Bool) (values : List Data) (events : List Event) (fault : ItemFault) : Type 0 where
  pub index : fault.index ≡ length events
  pub value : Data
  pub found : slice_get values fault.index ≡ Some value
  pub first : IsFirstBroken heading fault.code value

-- each event is that of the value at its place
abbrev pub AreEventsOf : (Data → Bool) → List Data → List Event → Type 0
AreEventsOf heading values events =
    (k : ℕ) (event : Event) → slice_get events k ≡ Some event → (value : Data) × (slice_get values k ≡ Some value) × IsEventOf heading value k event

-- the events of the values, numbered from 0, up to the first value that is none
pub record Decodes (heading : Data → Bool) (values : List Data) (events : List Event) (fault : Option ItemFault) : Type 0 where
  pub each : AreEventsOf heading values events
  pub all : IfNone fault (length events ≡ length values)
  pub stops : IfSome fault (IsFaultBehind heading values events)

-- a line takes a number for each value that it stands for, and one where there is none
pub record DecodesValues (heading : Data → Bool) (values : List Data) (decoded : Decoded) : Type 0 where
  pub taken : decoded.taken ≡ max 1 (length values)
  pub events : Decodes heading values decoded.events decoded.fault

abbrev pub DecodesValue : Data → Decoded → Type 0
DecodesValue value decoded = DecodesValues (heading_of (list_items value)) (values_of (list_items value) value) decoded

abbrev pub not_json : Decoded
not_json = record { events = []; taken = 1; fault = Some (record { index = 0; code = M1 }) }

abbrev pub IsDecoded : List ℕ → Decoded → Type 0
IsDecoded bytes decoded =
    ((¬ IsJson bytes) × (decoded ≡ not_json)) ⊎ ((value : Data) × IsValueOf bytes value × DecodesValue value decoded)

-- the numbers that a line takes, of which each event and the fault has one
pub record IsNumbered (bytes : List ℕ) (decoded : Decoded) : Type 0 where
  pub some : 1 ≤ decoded.taken
  pub few : decoded.taken ≤ max 1 (length bytes)
  pub events : All (λ event. event.line < decoded.taken) decoded.events
  pub fault : IfSome decoded.fault (λ fault. fault.index < decoded.taken)

pub record IsDecodedLine (line : Line) (decoded : Decoded) : Type 0 where
  pub decoded_is : IsDecoded line.bytes decoded
  pub numbered : IsNumbered line.bytes decoded
  pub sound : All IsSound decoded.events
