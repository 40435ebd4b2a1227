-- The lines of a log as they stand there, each with its newline.
use Rattle.std.specs.Prelude.{◌≡◌, ℕ, List, [], ◌∷◌, ◌++◌, map}
use Rattle.line_reader.specs.Lines.{newline, whole_lines, rest_of, last_line, lines_of}

-- a line and its newline
abbrev pub closed : List ℕ → List ℕ
closed line = line ++ newline ∷ []

-- the texts of the lines; the last may lack its newline
abbrev pub line_texts : List ℕ → List (List ℕ)
line_texts bytes = map closed (whole_lines bytes) ++ last_line (rest_of bytes)

-- the first line of some bytes, its text, and the bytes behind it
pub record BeginsWith (bytes line text more : List ℕ) : Type 0 where
  pub lines : lines_of bytes ≡ line ∷ lines_of more
  pub texts : line_texts bytes ≡ text ∷ line_texts more
