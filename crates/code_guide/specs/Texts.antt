-- Codes with their texts.
use Rattle.std.specs.Prelude.{◌≡◌, ℕ, List, [], ◌∷◌, ◌++◌, Option, Some, None, bytes_eq, codes, if◌then◌else◌}
use Rattle.std.specs.List.{join_with_byte}

pub record Guide : Type 0 where
  pub name : List ℕ
  pub text : List ℕ

abbrev pub guide : List ℕ → List ℕ → Guide
guide name text = record { name = name; text = text }

-- the text of the first code of this name
abbrev pub text_in : List Guide → List ℕ → Option (List ℕ)
text_in [] name = None
text_in (first ∷ others) name = if bytes_eq name first.name then Some first.text else text_in others name

-- a text begins with the code's words, a colon and a space
abbrev pub Begins : List (List ℕ) → List ℕ → Type 0
Begins words text = (rest : List ℕ) × (text ≡ join_with_byte 32 words ++ codes ": " ++ rest)
