-- The lines of a log. The bytes are cut at each newline, and a rest that isn't empty is a last line.
-- Lines are numbered from 1. Blank lines are counted and dropped.
use Rattle.std.specs.Prelude.{ℕ, ◌+◌, ◌-◌, ◌^◌, ◌==◌, min, List, [], ◌∷◌, ◌++◌, length, Bool, true, false, if◌then◌else◌, nat_le, ◌&&◌}
use Rattle.std.specs.List.{list_all}

-- the byte that ends a line
abbrev pub newline : ℕ
newline = 10

-- a line may have so many bytes
abbrev pub longest_line : ℕ
longest_line = 16777216

-- a byte more at the front of the first line, where there is one
abbrev pub extend_first : ℕ → List (List ℕ) → List (List ℕ)
extend_first byte [] = []
extend_first byte (line ∷ lines) = (byte ∷ line) ∷ lines

-- the lines that a newline ends, without it
abbrev pub whole_lines : List ℕ → List (List ℕ)
whole_lines [] = []
whole_lines (byte ∷ bytes) = if byte == newline then [] ∷ whole_lines bytes else extend_first byte (whole_lines bytes)

-- a byte before the rest belongs to it where no line ends between
abbrev pub extend_rest : ℕ → List (List ℕ) → List ℕ → List ℕ
extend_rest byte [] rest = byte ∷ rest
extend_rest byte (line ∷ lines) rest = rest

-- the bytes behind the last newline
abbrev pub rest_of : List ℕ → List ℕ
rest_of [] = []
rest_of (byte ∷ bytes) = if byte == newline then rest_of bytes else extend_rest byte (whole_lines bytes) (rest_of bytes)

-- a rest that isn't empty is a last line
abbrev pub last_line : List ℕ → List (List ℕ)
last_line [] = []
last_line (byte ∷ bytes) = (byte ∷ bytes) ∷ []

-- the newline that such a rest lacks
abbrev pub closing_of : List ℕ → List ℕ
closing_of [] = []
closing_of (byte ∷ bytes) = newline ∷ []

abbrev pub lines_of : List ℕ → List (List ℕ)
lines_of bytes = whole_lines bytes ++ last_line (rest_of bytes)

-- spaces, tabs and carriage returns
abbrev pub is_space : ℕ → Bool
is_space byte = if byte == 32 then true else (if byte == 9 then true else byte == 13)

abbrev pub is_blank : List ℕ → Bool
is_blank line = list_all is_space line

-- a blank line is dropped, unless it is too long
abbrev pub is_dropped : List ℕ → Bool
is_dropped line = nat_le (length line) longest_line && is_blank line

-- the next number of a line; numbers stand still at the type's end
abbrev pub number_after : ℕ → ℕ
number_after number = min (number + 1) (2 ^ 64 - 1)

pub record NumberedLine : Type 0 where
  pub number : ℕ
  pub bytes : List ℕ

-- a line behind so many, if it isn't dropped
abbrev pub number_line : Bool → ℕ → List ℕ → List NumberedLine → List NumberedLine
number_line true number line lines = lines
number_line false number line lines = record { number = number; bytes = line } ∷ lines

-- the lines that aren't dropped, behind so many
abbrev pub numbered : ℕ → List (List ℕ) → List NumberedLine
numbered number [] = []
numbered number (line ∷ lines) = number_line (is_dropped line) (number_after number) line (numbered (number_after number) lines)

abbrev pub lines_from : ℕ → List ℕ → List NumberedLine
lines_from number bytes = numbered number (lines_of bytes)

-- how many lines were counted behind the whole lines
abbrev pub count_behind : ℕ → List (List ℕ) → ℕ
count_behind number [] = number
count_behind number (line ∷ lines) = count_behind (number_after number) lines
