-- The bytes of the tokens of a selector, and fronts of texts.
use Rattle.std.specs.Prelude.{ℕ, ◌==◌, Bool, ◌||◌, List, [], ◌∷◌, Option, Some, None, length, take, drop, bytes_eq, if◌then◌else◌}
use Rattle.std.specs.Char.{is_ascii_alphanumeric}
use Rattle.label_select.specs.declared.bytes.Class.{Class}
use Rattle.label_select.specs.declared.bytes.Class.TheVariants.{Space, Value, Key}

-- ASCII letters, digits, `-`, `_` and `.`
abbrev pub is_value_byte : ℕ → Bool
is_value_byte b = is_ascii_alphanumeric b || b == 45 || b == 95 || b == 46

abbrev pub is_in_class : Class → ℕ → Bool
is_in_class Space b = b == 32
is_in_class Value b = is_value_byte b
is_in_class Key b = is_value_byte b || b == 47

-- the longest front of bytes of a class, and what is behind it
abbrev pub front : Class → List ℕ → List ℕ
front class [] = []
front class (b ∷ rest) = if is_in_class class b then b ∷ front class rest else []

abbrev pub behind : Class → List ℕ → List ℕ
behind class [] = []
behind class (b ∷ rest) = if is_in_class class b then behind class rest else b ∷ rest

-- what is behind a prefix, where the text begins with it
abbrev pub after : List ℕ → List ℕ → Option (List ℕ)
after prefix text = if bytes_eq (take (length prefix) text) prefix then Some (drop (length prefix) text) else None
