-- What the log records: the requests, what they asked, and how they were answered.
use Rattle.std.specs.Prelude.{ℕ, ℤ, Bool, true, false, List, Option}
use Rattle.base_types.specs.declared.kubernetes.key.Cover.{Cover}
use Rattle.base_types.specs.declared.kubernetes.key.ObjectKey.{ObjectKey}
use Rattle.base_types.specs.declared.kubernetes.request.Decision.{Decision}

-- a text, as its bytes
abbrev pub Text : Type 0
Text = List ℕ

-- One object as an answer shows it: its key, `metadata.resourceVersion`, `metadata.uid`, and its tree as a
-- number that equal trees share.
pub record Item : Type 0 where
  pub key : ObjectKey
  pub revision : ℕ
  pub uid : Text
  pub tree : ℕ

-- What a request asks of the object before it (Kubernetes API, `metadata.resourceVersion` and
-- `metadata.uid` of an update, `preconditions` of DeleteOptions).
pub record Conditions : Type 0 where
  pub revision : Option ℕ
  pub uid : Option Text

-- A list of objects at one revision (Kubernetes API concepts, "Collections"), in one namespace, or in all
-- where the namespace is empty. A whole list shows each object of its scope that its selector takes.
pub record Listing : Type 0 where
  pub group : Text
  pub resource : Text
  pub namespace : Text
  pub revision : ℕ
  pub whole : Bool
  pub items : List Item

pub data Answer : Type 0 where
  -- a write, answered by the object that it left; `created` where the API server says so (201)
  Made : Item → (created : Bool) → Answer
  -- a removal, whose answer shows no revision
  Removed : (key : ObjectKey) → (uid : Text) → Answer
  -- a write of which the log doesn't tell what it left
  Opaque : Cover → Answer
  -- a read that shows an object
  Saw : Item → Answer
  -- a NotFound
  SawNone : (key : ObjectKey) → Answer
  -- an AlreadyExists
  SawSome : (key : ObjectKey) → Answer
  -- a Conflict: the object didn't meet the conditions
  SawOther : (key : ObjectKey) → Answer
  Listed : Listing → Answer
  -- nothing to be right about
  Free : Answer
  Aside : Answer

-- Where in the history a request lets its answer be (Kubernetes API concepts, "Resource versions",
-- semantics for get and list).
pub data Reading : Type 0 where
  -- no `resourceVersion`, and every write
  MostRecent : Reading
  -- `resourceVersion=0`, and a list that goes on with `continue`
  AnyVersion : Reading
  NotOlderThan : (revision : ℕ) → Reading
  -- `resourceVersionMatch=Exact`
  Exactly : (revision : ℕ) → Reading
  -- no request, but a list that is known from elsewhere
  Checkpoint : (revision : ℕ) → Reading

-- One audit event (Kubernetes "Auditing"), or a checkpoint, which has neither times, level, stage nor decision.
pub record Event : Type 0 where
  pub line : ℕ
  -- between these moments the request was handled
  pub lo : ℤ
  pub hi : ℤ
  pub reading : Reading
  pub conditions : Conditions
  pub answer : Answer
  -- the policy gives the request another level than the event's
  pub other_level : Bool
  -- the policy omits the event's stage
  pub omitted_stage : Bool
  -- the recorded decision, where it is judged
  pub decision : Option Decision

abbrev pub is_checkpoint_reading : Reading → Bool
is_checkpoint_reading MostRecent = false
is_checkpoint_reading AnyVersion = false
is_checkpoint_reading (NotOlderThan revision) = false
is_checkpoint_reading (Exactly revision) = false
is_checkpoint_reading (Checkpoint revision) = true

abbrev pub is_checkpoint : Event → Bool
is_checkpoint event = is_checkpoint_reading event.reading
