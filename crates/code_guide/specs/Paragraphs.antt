-- What each text tells, paragraph by paragraph, and the numbers of the limits in it.
use Rattle.std.specs.Prelude.{◌≡◌, ℕ, zero, suc, Bool, true, false, ◌++◌, ◌+◌, ◌/◌, ◌%◌, List, [], ◌∷◌, Option, Some, None, bytes_eq, codes, drop, length, nat_eq, nat_lt, if◌then◌else◌}
use Rattle.std.specs.List.{ends_with, starts_with}

-- how the paragraphs behind the first begin
abbrev pub heads : List (List ℕ)
heads = codes "\n\nHow it comes about: " ∷ codes "\n\nLook at: " ∷ codes "\n\nWhat to do: " ∷ []

-- what stands behind the first place at which a text has these words
abbrev pub behind : List ℕ → List ℕ → Option (List ℕ)
behind words [] = None
behind words (b ∷ rest) = if starts_with nat_eq (b ∷ rest) words then Some (drop (length words) (b ∷ rest)) else behind words rest

-- a text has these heads, one behind the other, and ends with a newline
abbrev pub has_heads : List (List ℕ) → Option (List ℕ) → Bool
has_heads others None = false
has_heads [] (Some rest) = ends_with nat_eq rest (codes "\n")
has_heads (head ∷ others) (Some rest) = has_heads others (behind head rest)

abbrev pub is_whole : List ℕ → Bool
is_whole text = has_heads heads (Some text)

abbrev pub IsWhole : List ℕ → Type 0
IsWhole text = is_whole text ≡ true

-- the most that a limit lets through: bytes, events or values
abbrev pub most_of : List ℕ → Option ℕ
most_of name =
    if bytes_eq name (codes "setup") then Some 268435456
    else if bytes_eq name (codes "line") then Some 16777216
    else if bytes_eq name (codes "events") then Some 4194304
    else if bytes_eq name (codes "input") then Some 1099511627776
    else if bytes_eq name (codes "file") then Some 268435456
    else if bytes_eq name (codes "placement") then Some 1073741824
    else if bytes_eq name (codes "pool") then Some 50000000
    else None

-- a number as a text tells it: in decimal digits, in groups of three, and 2^40 as a power
abbrev pub digits : ℕ → ℕ → List ℕ
digits zero n = []
digits (suc count) n = digits count (n / 10) ++ ((48 + n % 10) ∷ [])

abbrev pub first_group : ℕ → List ℕ
first_group n = digits (if nat_lt n 10 then 1 else if nat_lt n 100 then 2 else 3) n

abbrev pub grouped : ℕ → ℕ → List ℕ
grouped zero n = first_group n
grouped (suc more) n = if nat_lt n 1000 then first_group n else grouped more (n / 1000) ++ (codes "," ++ digits 3 (n % 1000))

abbrev pub told_number : ℕ → List ℕ
told_number n = if nat_eq n 1099511627776 then codes "2^40" else grouped 3 n

-- the words that follow are the number's
abbrev pub tells_next : Option ℕ → Option (List ℕ) → Bool
tells_next None rest = false
tells_next (Some most) None = false
tells_next (Some most) (Some rest) = starts_with nat_eq rest (told_number most ++ codes " ")

-- a limit's text says of more than how many it tells
abbrev pub tells_most : List ℕ → List ℕ → Bool
tells_most name text = tells_next (most_of name) (behind (codes " more than ") text)

abbrev pub TellsLimit : List (List ℕ) → List ℕ → Type 0
TellsLimit words text = (name : List ℕ) → words ≡ codes "limit" ∷ name ∷ [] → tells_most name text ≡ true
