-- The rules of audit events, in their order, and the first that a JSON value breaks.
use Rattle.std.specs.Prelude.{◌≡◌, ⊤, ℕ, ◌≤◌, ◌<◌, Bool, true, List, Option, Some, IsSome, codes}
use Rattle.serde_json.specs.Data.{Data}
use Rattle.audit_event.specs.declared.fault.Malformed.{Malformed}
use Rattle.audit_event.specs.declared.fault.Malformed.TheVariants.{M1, M2, M3, M4, M5, M6, M7, M8, M9, M10, M11, M12}
use Rattle.request_attrs.specs.Refusals.{IsReadable}
use Rattle.audit_event.specs.Levels.{level_in, stage_in}
use Rattle.audit_event.specs.Members.{text_at, filled_at}
use Rattle.audit_event.specs.Numbers.{has_whole_numbers}
use Rattle.audit_event.specs.Statuses.{code_in}
use Rattle.audit_event.specs.Times.{times_in}
use Rattle.audit_event.specs.Users.{users_in}

-- the place of a rule in the order
abbrev pub rank : Malformed → ℕ
rank M1 = 1
rank M2 = 2
rank M3 = 3
rank M4 = 4
rank M5 = 5
rank M6 = 6
rank M7 = 7
rank M8 = 8
rank M9 = 9
rank M10 = 10
rank M11 = 11
rank M12 = 12

abbrev pub audit_id_in : Data → Option (List ℕ)
audit_id_in value = filled_at (codes "auditID") value

abbrev pub uri_in : Data → Option (List ℕ)
uri_in value = text_at (codes "requestURI") value

abbrev pub verb_in : Data → Option (List ℕ)
verb_in value = filled_at (codes "verb") value

-- a verb and a URI that has attributes
pub record HasRequest (value : Data) : Type 0 where
  pub verb : List ℕ
  pub uri : List ℕ
  pub has_verb : verb_in value ≡ Some verb
  pub has_uri : uri_in value ≡ Some uri
  pub readable : IsReadable uri

-- A value that was read keeps the first rule, and the last one is on the whole log.
abbrev pub Keeps : (Data → Bool) → Malformed → Data → Type 0
Keeps heading M1 value = ⊤
Keeps heading M2 value = heading value ≡ true
Keeps heading M3 value = IsSome (level_in value)
Keeps heading M4 value = IsSome (stage_in value)
Keeps heading M5 value = IsSome (times_in value)
Keeps heading M6 value = has_whole_numbers value ≡ true
Keeps heading M7 value = IsSome (audit_id_in value)
Keeps heading M8 value = IsSome (uri_in value)
Keeps heading M9 value = HasRequest value
Keeps heading M10 value = IsSome (users_in value)
Keeps heading M11 value = IsSome (code_in value)
Keeps heading M12 value = ⊤

-- the value breaks this rule, and none of those from a place on before it
pub record BreaksFrom (place : ℕ) (heading : Data → Bool) (code : Malformed) (value : Data) : Type 0 where
  pub broken : ¬ Keeps heading code value
  pub earlier : (other : Malformed) → place ≤ rank other → rank other < rank code → Keeps heading other value

-- the first rule that the value breaks
abbrev pub IsFirstBroken : (Data → Bool) → Malformed → Data → Type 0
IsFirstBroken heading code value = BreaksFrom 1 heading code value
