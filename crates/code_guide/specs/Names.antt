-- The names of all codes. A code is one word, or two: `status` and a number, or `limit`, `setup` or `file` and a
-- word.
use Rattle.std.specs.Prelude.{ℕ, List, [], ◌∷◌, Contains, bytes_eq, codes, if◌then◌else◌}

-- the rules that an event of the log can break, those of a setup, and the reasons of a verdict
abbrev pub word_names : List (List ℕ)
word_names =
    codes "M1" ∷ codes "M2" ∷ codes "M3" ∷ codes "M4" ∷ codes "M5" ∷ codes "M6" ∷ codes "M7" ∷ codes "M8" ∷ codes "M9" ∷ codes "M10" ∷ codes "M11" ∷ codes "M12"
    ∷ codes "S1" ∷ codes "S2" ∷ codes "S3" ∷ codes "S4" ∷ codes "S5" ∷ codes "S6" ∷ codes "S7" ∷ codes "S8" ∷ codes "S9" ∷ codes "S10" ∷ codes "S11" ∷ codes "S12" ∷ codes "S13" ∷ codes "S14" ∷ codes "S15"
    ∷ codes "U1" ∷ codes "U2" ∷ codes "U3" ∷ codes "U4" ∷ codes "U5" ∷ codes "U6" ∷ codes "U7" ∷ codes "U8" ∷ codes "U9" ∷ codes "U10" ∷ codes "U11" ∷ codes "U12" ∷ codes "U13" ∷ codes "U14" ∷ codes "V1" ∷ codes "V2"
    ∷ []

abbrev pub status_names : List (List ℕ)
status_names = codes "0" ∷ codes "1" ∷ codes "2" ∷ codes "3" ∷ codes "4" ∷ codes "5" ∷ codes "6" ∷ codes "7" ∷ codes "8" ∷ codes "70" ∷ []

abbrev pub limit_names : List (List ℕ)
limit_names = codes "setup" ∷ codes "line" ∷ codes "events" ∷ codes "input" ∷ codes "file" ∷ codes "placement" ∷ codes "pool" ∷ []

-- why no setup can be made
abbrev pub making_names : List (List ℕ)
making_names = codes "time" ∷ codes "policy" ∷ codes "empty" ∷ codes "resources" ∷ []

abbrev pub file_names : List (List ℕ)
file_names = codes "json" ∷ codes "kind" ∷ codes "pages" ∷ codes "unknown" ∷ codes "version" ∷ codes "twice" ∷ codes "revision" ∷ []

-- the second words that go with the first
abbrev pub names_of : List ℕ → List (List ℕ)
names_of family =
    if bytes_eq family (codes "status") then status_names
    else if bytes_eq family (codes "limit") then limit_names
    else if bytes_eq family (codes "setup") then making_names
    else if bytes_eq family (codes "file") then file_names
    else []

-- the words are a code
abbrev pub IsCode : List (List ℕ) → Type 0
IsCode [] = ⊥
IsCode (code ∷ []) = Contains word_names code
IsCode (family ∷ code ∷ []) = Contains (names_of family) code
IsCode (family ∷ code ∷ other ∷ others) = ⊥
