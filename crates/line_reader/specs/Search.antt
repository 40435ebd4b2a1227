-- What a search for the next line passes over.
use Rattle.std.specs.Prelude.{◌≡◌, ◌≢◌, ℕ, ◌<◌, ◌≤◌, ◌+◌, List, ◌∷◌, ◌++◌, length, take, drop, All, false, true}
use Rattle.line_reader.specs.Lines.{newline, whole_lines, rest_of, is_dropped, count_behind}

abbrev pub HasNoNewline : List ℕ → Type 0
HasNoNewline bytes = All (λ byte. byte ≢ newline) bytes

-- the bytes up to `start` are whole lines that are all dropped, and `behind` counts them
pub record Skips (bytes : List ℕ) (number start behind : ℕ) : Type 0 where
  pub within : start ≤ length bytes
  pub lines : List (List ℕ)
  pub cut : (more : List ℕ) → whole_lines (bytes ++ more) ≡ lines ++ whole_lines (drop start bytes ++ more)
  pub rest : (more : List ℕ) → rest_of (bytes ++ more) ≡ rest_of (drop start bytes ++ more)
  pub dropped : All (λ line. is_dropped line ≡ true) lines
  pub counted : behind ≡ count_behind number lines

-- the bytes from `start` on begin with a line of so many bytes and its newline, which isn't dropped
pub record IsLineAt (bytes : List ℕ) (start len : ℕ) : Type 0 where
  pub within : start + len < length bytes
  pub cut : drop start bytes ≡ take len (drop start bytes) ++ newline ∷ drop (start + len + 1) bytes
  pub line : HasNoNewline (take len (drop start bytes))
  pub kept : is_dropped (take len (drop start bytes)) ≡ false
