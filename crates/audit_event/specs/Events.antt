-- The audit event of a JSON value (Kubernetes `audit.k8s.io/v1`, Event), of a line, and why there is none.
use Rattle.std.specs.Prelude.{◌≡◌, ⊤, ℕ, Bool, true, List, Option, Some, IsUtf8, ◌⊎◌}
use Rattle.serde_json.specs.Data.{Data}
use Rattle.serde_json.specs.Read.{read}
use Rattle.base_types.specs.declared.kubernetes.request.RequestAttrs.{RequestAttrs}
use Rattle.request_attrs.specs.Attributes.{attributes}
use Rattle.request_attrs.specs.Refusals.{IsReadable}
use Rattle.request_attrs.specs.declared.fault.UriFault.{UriFault}
use Rattle.request_attrs.specs.declared.fault.UriFault.TheVariants.{NoSlash, BadEscape, NotText}
use Rattle.request_attrs.specs.declared.fault.UriFault.TheVariants as Uri
use Rattle.audit_event.specs.declared.event.Event.{Event}
use Rattle.audit_event.specs.declared.fault.Malformed.{Malformed}
use Rattle.audit_event.specs.declared.fault.Malformed.TheVariants.{M1, M9}
use Rattle.audit_event.specs.declared.fault.EventFault.{EventFault}
use Rattle.audit_event.specs.declared.fault.EventFault.TheVariants.{Malformed as Broken, OutOfMemory}
use Rattle.audit_event.specs.Bodies.{request_in, response_in, IsSoundBody}
use Rattle.audit_event.specs.Decisions.{decision_in}
use Rattle.audit_event.specs.Headings.{is_event}
use Rattle.audit_event.specs.Levels.{level_in, stage_in}
use Rattle.audit_event.specs.Numbers.{has_whole_numbers}
use Rattle.audit_event.specs.Rules.{audit_id_in, verb_in, uri_in, BreaksFrom, IsFirstBroken}
use Rattle.audit_event.specs.Statuses.{code_in, status_in}
use Rattle.audit_event.specs.Times.{times_in, AreSound}
use Rattle.audit_event.specs.Users.{users_in}

-- the attributes of the value's verb and URI
pub record IsRequestOf (value : Data) (attrs : RequestAttrs) : Type 0 where
  pub verb : List ℕ
  pub uri : List ℕ
  pub has_verb : verb_in value ≡ Some verb
  pub has_uri : uri_in value ≡ Some uri
  pub readable : IsReadable uri
  pub is : attrs ≡ attributes verb uri

-- the event's fields are those of the value
pub record HasFieldsOf (value : Data) (line : ℕ) (event : Event) : Type 0 where
  pub line_is : event.line ≡ line
  pub level : level_in value ≡ Some event.level
  pub stage : stage_in value ≡ Some event.stage
  pub times : times_in value ≡ Some (record { received = event.received; staged = event.staged })
  pub numbers : has_whole_numbers value ≡ true
  pub audit_id : audit_id_in value ≡ Some event.audit_id
  pub attrs : IsRequestOf value event.attrs
  pub users : users_in value ≡ Some (event.user, event.impersonated)
  pub code : Option ℕ
  pub has_code : code_in value ≡ Some code
  pub status : event.status ≡ status_in event.stage code value
  pub request : event.request ≡ request_in value
  pub response : event.response ≡ response_in value
  pub decision : event.decision ≡ decision_in value

-- the event of a value that says so by its heading
pub record IsEventOf (heading : Data → Bool) (value : Data) (line : ℕ) (event : Event) : Type 0 where
  pub headed : heading value ≡ true
  pub fields : HasFieldsOf value line event

-- want of memory says nothing of the value
abbrev pub IsCauseFrom : ℕ → Data → EventFault → Type 0
IsCauseFrom place value (Broken code) = (heading : Data → Bool) → BreaksFrom place heading code value
IsCauseFrom place value OutOfMemory = ⊤

-- a URI without attributes breaks a rule
abbrev pub fault_for : UriFault → EventFault
fault_for NoSlash = Broken M9
fault_for BadEscape = Broken M9
fault_for NotText = Broken M9
fault_for Uri.OutOfMemory = OutOfMemory

-- the URI has no attributes
abbrev pub IsUnreadable : List ℕ → EventFault → Type 0
IsUnreadable uri (Broken code) = (code ≡ M9) × (¬ IsReadable uri)
IsUnreadable uri OutOfMemory = ⊤

abbrev pub IsCause : (Data → Bool) → Data → EventFault → Type 0
IsCause heading value (Broken code) = IsFirstBroken heading code value
IsCause heading value OutOfMemory = ⊤

-- the line is one JSON text, of this value
pub record IsValueOf (bytes : List ℕ) (value : Data) : Type 0 where
  pub utf8 : IsUtf8 bytes
  pub reads : read bytes ≡ Some value

abbrev pub IsJson : List ℕ → Type 0
IsJson bytes = (value : Data) × IsValueOf bytes value

-- the event of a line
pub record IsEventOfLine (bytes : List ℕ) (number : ℕ) (event : Event) : Type 0 where
  pub value : Data
  pub is_value : IsValueOf bytes value
  pub is_event_of : IsEventOf is_event value number event

-- the first rule that a line breaks: it is no JSON text, or its value breaks the others
abbrev pub IsFirstBrokenOfLine : Malformed → List ℕ → Type 0
IsFirstBrokenOfLine code bytes =
    ((code ≡ M1) × (¬ IsJson bytes)) ⊎ ((value : Data) × IsValueOf bytes value × IsFirstBroken is_event code value)

abbrev pub IsLineCause : List ℕ → EventFault → Type 0
IsLineCause bytes (Broken code) = IsFirstBrokenOfLine code bytes
IsLineCause bytes OutOfMemory = ⊤

-- what those who take the event may rest on
pub record IsSound (event : Event) : Type 0 where
  pub times : AreSound event.received.0 event.staged.0
  pub request : IsSoundBody event.request
  pub response : IsSoundBody event.response
