-- The numbers that lines can take.
use Rattle.std.specs.Prelude.{⊤, ℕ, ◌+◌, ◌-◌, ◌<◌, ◌≤◌, max, List, [], ◌∷◌, length}
use Rattle.line_reader.specs.Lines.{NumberedLine}

-- a line stands for at most so many items
abbrev pub most_items : List ℕ → ℕ
most_items bytes = max 1 (length bytes)

-- the number of the last of these lines
abbrev pub last_number : ℕ → List NumberedLine → ℕ
last_number last [] = last
last_number last (line ∷ lines) = last_number line.number lines

-- lists take at most so many numbers beyond one for each line
abbrev pub most_extra : ℕ → List NumberedLine → ℕ
most_extra extra [] = extra
most_extra extra (line ∷ lines) = most_extra (extra + (most_items line.bytes - 1)) lines

-- the numbers rise, and none is above 2^40, however many items the lines stand for
abbrev pub AreOrdered : ℕ → ℕ → List NumberedLine → Type 0
AreOrdered last extra [] = ⊤
AreOrdered last extra (line ∷ lines) =
    (last < line.number) × (line.number + (extra + (most_items line.bytes - 1)) ≤ 1099511627776)
    × AreOrdered line.number (extra + (most_items line.bytes - 1)) lines
