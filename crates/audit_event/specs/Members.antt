-- The members of a JSON object (RFC 8259 section 4), as `serde_json` reads it: of members of one name the last stays.
use Rattle.std.specs.Prelude.{ℕ, ◌==◌, Bool, false, List, [], length, Option, Some, None, option_and_then, unwrap_or, is_some, bytes_eq, if◌then◌else◌}
use Rattle.serde_json.specs.Data.{Data}
use Rattle.serde_json.specs.Find.{get, as_null, as_str}

-- a member that is a text
abbrev pub text_at : List ℕ → Data → Option (List ℕ)
text_at name value = option_and_then as_str (get name value)

abbrev pub filled : List ℕ → Option (List ℕ)
filled text = if length text == 0 then None else Some text

-- a member that is a text with at least one byte
abbrev pub filled_at : List ℕ → Data → Option (List ℕ)
filled_at name value = option_and_then filled (text_at name value)

abbrev pub is_text : List ℕ → Option (List ℕ) → Bool
is_text text None = false
is_text text (Some found) = bytes_eq found text

-- whether a member is this text
abbrev pub says : List ℕ → List ℕ → Data → Bool
says name text value = is_text text (text_at name value)

abbrev pub unless_null : Data → Option Data
unless_null value = if is_some (as_null value) then None else Some value

-- a member that is there and not null
abbrev pub present : List ℕ → Data → Option Data
present name value = option_and_then unless_null (get name value)

-- a text of what may be missing; empty where it isn't there or no text
abbrev pub text_or_empty : List ℕ → Option Data → List ℕ
text_or_empty name None = []
text_or_empty name (Some value) = unwrap_or (text_at name value) []
