-- What an event records of a request's and a response's object.
use Rattle.std.specs.Prelude.{Bool, true, false, Option, Some, None, codes}
use Rattle.serde_json.specs.Data.{Data}
use Rattle.base_types.specs.Meaning.{Meaning}
use Rattle.base_types.specs.Values.{of_data, InRange}
use Rattle.audit_event.specs.declared.event.Body.{Body}
use Rattle.audit_event.specs.declared.event.Body.TheVariants.{Absent, Kept, Unread}
use Rattle.audit_event.specs.Members.{present}

-- a body with a number that has no tree stays unread
abbrev pub kept_or_unread : Option Meaning → Body
kept_or_unread None = Unread
kept_or_unread (Some tree) = Kept tree

abbrev pub body_of : Option Data → Body
body_of None = Absent
body_of (Some value) = kept_or_unread (of_data value)

abbrev pub request_in : Data → Body
request_in value = body_of (present (codes "requestObject") value)

abbrev pub response_in : Data → Body
response_in value = body_of (present (codes "responseObject") value)

-- the tree of a body that was recorded
abbrev pub kept : Body → Option Meaning
kept Absent = None
kept (Kept tree) = Some tree
kept Unread = None

abbrev pub is_kept : Body → Bool
is_kept Absent = false
is_kept (Kept tree) = true
is_kept Unread = false

-- each number of the tree is whole and of 64 bits
abbrev pub IsSoundBody : Body → Type 0
IsSoundBody Absent = Unit {0}
IsSoundBody (Kept tree) = InRange tree
IsSoundBody Unread = Unit {0}
