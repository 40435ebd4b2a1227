-- Which events of a log are kept: the first of each audit ID and stage. What repeats it is dropped.
use Rattle.std.specs.Prelude.{◌≡◌, ◌<◌, ◌^◌, List, [], ◌∷◌, ◌++◌, length, All, AllPairs, Contains, Result, Ok, Err}
use Rattle.base_types.specs.declared.kubernetes.request.RequestAttrs.{RequestAttrs}
use Rattle.audit_event.specs.declared.event.Event.{Event}
use Rattle.audit_event.specs.declared.seen.Sighting.{Sighting}
use Rattle.audit_event.specs.declared.seen.Sighting.TheVariants.{Fresh, Repeat}
use Rattle.audit_event.specs.declared.seen.Identity.{Identity}
use Rattle.audit_event.specs.declared.fault.SeenFault.{SeenFault}
use Rattle.audit_event.specs.declared.fault.SeenFault.TheVariants.{Differs, OutOfMemory}

-- one stage of one request
abbrev pub identity_of : Event → Identity
identity_of event = record { audit_id = event.audit_id; stage = event.stage }

abbrev pub AreOfOneStage : Event → Event → Type 0
AreOfOneStage a b = identity_of a ≡ identity_of b

pub record SameOrigin (a b : Event) : Type 0 where
  pub audit_id : a.audit_id ≡ b.audit_id
  pub stage : a.stage ≡ b.stage
  pub level : a.level ≡ b.level
  pub received : a.received ≡ b.received
  pub staged : a.staged ≡ b.staged

pub record SamePath (a b : RequestAttrs) : Type 0 where
  pub verb : a.verb ≡ b.verb
  pub path : a.path ≡ b.path
  pub is_resource : a.is_resource ≡ b.is_resource
  pub group : a.group ≡ b.group
  pub version : a.version ≡ b.version

pub record SameObject (a b : RequestAttrs) : Type 0 where
  pub resource : a.resource ≡ b.resource
  pub subresource : a.subresource ≡ b.subresource
  pub namespace : a.namespace ≡ b.namespace
  pub name : a.name ≡ b.name
  pub query : a.query ≡ b.query

pub record SameRequest (a b : Event) : Type 0 where
  pub path : SamePath a.attrs b.attrs
  pub object : SameObject a.attrs b.attrs
  pub user : a.user ≡ b.user
  pub impersonated : a.impersonated ≡ b.impersonated
  pub request : a.request ≡ b.request

pub record SameAnswer (a b : Event) : Type 0 where
  pub status : a.status ≡ b.status
  pub response : a.response ≡ b.response
  pub decision : a.decision ≡ b.decision

-- the two are equal in all fields but the line
pub record SameButLine (a b : Event) : Type 0 where
  pub origin : SameOrigin a b
  pub request : SameRequest a b
  pub answer : SameAnswer a b

-- what is answered to an event, of the one that was kept of its request and stage
abbrev pub Judges : Event → Event → Result Sighting SeenFault → Type 0
Judges kept event (Ok Fresh) = ⊥
Judges kept event (Ok Repeat) = SameButLine kept event
Judges kept event (Err (Differs line)) = (kept.line ≡ line) × (¬ SameButLine kept event)
Judges kept event (Err OutOfMemory) = ⊥

-- an event that was kept of the same request and stage
pub record WasKept (kept : List Event) (event found : Event) : Type 0 where
  pub among : Contains kept found
  pub one : AreOfOneStage found event

-- the kept events before an event, what is answered to it, and the kept events after
abbrev pub KeepsFirst : List Event → Event → Result Sighting SeenFault → List Event → Type 0
KeepsFirst kept event (Ok Fresh) after = All (λ other. ¬ AreOfOneStage other event) kept × (after ≡ kept ++ event ∷ [])
KeepsFirst kept event (Ok Repeat) after = ((found : Event) × WasKept kept event found × SameButLine found event) × (after ≡ kept)
KeepsFirst kept event (Err (Differs line)) after =
    ((found : Event) × WasKept kept event found × (found.line ≡ line) × (¬ SameButLine found event)) × (after ≡ kept)
KeepsFirst kept event (Err OutOfMemory) after = after ≡ kept

-- the events that a log keeps
pub record AreKept (events : List Event) : Type 0 where
  pub distinct : AllPairs (λ a b. ¬ AreOfOneStage a b) events
  pub rise : AllPairs (λ a b. a.line < b.line) events
  pub few : length events < 2 ^ 32
