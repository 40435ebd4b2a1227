-- JSON Pointer (RFC 6901).
use Rattle.std.specs.Prelude.{◌≡◌, ◌<◌, encode_utf8, ℕ, zero, suc, ◌==◌, Bool, false, List, [], ◌∷◌, ◌++◌, length, Option, Some, None, option_map, option_and_then, if◌then◌else◌}
use Rattle.std.specs.List.{slice_split, flat_map, list_all}
use Rattle.std.specs.Char.{is_ascii_digit}
use Rattle.std.specs.Str.Parse.{digits_value}
use Rattle.base_types.specs.Meaning.{Meaning, null, flag, whole, words, items, members, Kids, no_kids, kid}
use Rattle.base_types.specs.Parts.{lookup}

abbrev pub slash : ℕ
slash = 47

abbrev pub tilde : ℕ
tilde = 126

abbrev pub is_slash : ℕ → Bool
is_slash b = b == slash

-- the character that a `~` with what follows it stands for (section 3, `escaped`): `~0` is `~`, `~1` is `/`
abbrev pub escape_of : ℕ → Option ℕ
escape_of b = if b == 48 then Some tilde else (if b == 49 then Some slash else None)

-- the token that a reference-token writes (section 3)
abbrev mutual
  pub unescaped : List ℕ → Option (List ℕ)
  unescaped [] = Some []
  unescaped (b ∷ bs) = if b == tilde then after_tilde bs else option_map (λ rest. b ∷ rest) (unescaped bs)

  pub after_tilde : List ℕ → Option (List ℕ)
  after_tilde [] = None
  after_tilde (b ∷ bs) = option_and_then (λ c. option_map (λ rest. c ∷ rest) (unescaped bs)) (escape_of b)

-- a reference-token writes this character and then what its rest writes, or nothing more
abbrev pub IsNextChar : List ℕ → Option ℕ → List ℕ → Type 0
IsNextChar before None after = before ≡ []
IsNextChar before (Some c) after = (unescaped before ≡ option_map (λ rest. encode_utf8 c ++ rest) (unescaped after)) × (length after < length before)

abbrev pub all_unescaped : List (List ℕ) → Option (List (List ℕ))
all_unescaped [] = Some []
all_unescaped (part ∷ parts) = option_and_then (λ token. option_map (λ rest. token ∷ rest) (all_unescaped parts)) (unescaped part)

-- the tokens that a text writes: each reference-token stands behind a `/` (section 3, `json-pointer`)
abbrev pub pointer_of : List ℕ → Option (List (List ℕ))
pointer_of [] = Some []
pointer_of (b ∷ bs) = if b == slash then all_unescaped (slice_split is_slash bs) else None

-- the reference-token of a token: `~` is written `~0`, and `/` is written `~1`
abbrev pub escaped : List ℕ → List ℕ
escaped token = flat_map (λ b. if b == tilde then tilde ∷ 48 ∷ [] else (if b == slash then tilde ∷ 49 ∷ [] else b ∷ [])) token

-- the one text that writes these tokens
abbrev pub pointer_text : List (List ℕ) → List ℕ
pointer_text tokens = flat_map (λ token. slash ∷ escaped token) tokens

-- whether a token is an array index: `0` alone, or digits of which the first isn't `0` (section 4, `array-index`)
abbrev pub is_index : List ℕ → Bool
is_index [] = false
is_index (b ∷ bs) = if b == 48 then length bs == 0 else list_all is_ascii_digit (b ∷ bs)

abbrev pub index_of : List ℕ → Option ℕ
index_of token = if is_index token then Some (digits_value 10 token) else None

abbrev pub kid_at : ℕ → Kids → Option Meaning
kid_at n no_kids = None
kid_at zero (kid t ts) = Some t
kid_at (suc n) (kid t ts) = kid_at n ts

-- the value that a token refers to within a value (section 4): an object's member of that name, an array's item at
-- that index; `-` is the item behind the last, which isn't there
abbrev pub child_of : List ℕ → Meaning → Option Meaning
child_of token null = None
child_of token (flag b) = None
child_of token (whole z) = None
child_of token (words s) = None
child_of token (items ts) = option_and_then (λ n. kid_at n ts) (index_of token)
child_of token (members ms) = lookup token ms

-- the value that a pointer identifies within a document (section 4)
abbrev pub pointed : List (List ℕ) → Meaning → Option Meaning
pointed [] t = Some t
pointed (token ∷ rest) t = option_and_then (pointed rest) (child_of token t)
