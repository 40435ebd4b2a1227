-- What a line reader holds, and what a call of it does in front of whatever comes.
use Rattle.std.specs.Prelude.{◌≡◌, ℕ, ◌<◌, ◌≤◌, List, [], ◌∷◌, ◌++◌, length, Bool, true, false, Option, Some, None, Any}
use Rattle.std.specs.Prelude.{option_map}
use Rattle.line_reader.specs.declared.line.Line.{Line}
use Rattle.line_reader.specs.Lines.{NumberedLine, longest_line, whole_lines, rest_of, lines_from, numbered, count_behind, is_dropped}

pub record Reading : Type 0 where
  -- the lines given or skipped
  pub number : ℕ
  -- the bytes behind them
  pub pending : List ℕ
  pub ended : Bool

abbrev pub new_reading : Reading
new_reading = record { number = 0; pending = []; ended = false }

-- a whole line that isn't blank waits
abbrev pub HasWaiting : Reading → Type 0
HasWaiting r = Any (λ line. is_dropped line ≡ false) (whole_lines r.pending)

-- these lines were given, and the bytes behind them are those that are left, whatever comes
pub record Continues (old : Reading) (given : List NumberedLine) (new : Reading) : Type 0 where
  pub lines : (more : List ℕ) → lines_from old.number (old.pending ++ more) ≡ given ++ lines_from new.number (new.pending ++ more)
  pub whole : (more : List ℕ) → numbered old.number (whole_lines (old.pending ++ more)) ≡ given ++ numbered new.number (whole_lines (new.pending ++ more))
  pub rest : (more : List ℕ) → rest_of (old.pending ++ more) ≡ rest_of (new.pending ++ more)
  pub count : (more : List ℕ) → count_behind old.number (whole_lines (old.pending ++ more)) ≡ count_behind new.number (whole_lines (new.pending ++ more))

-- no newline is left, and the line that has begun isn't too long; behind the end nothing is left
pub record HoldsRest (r : Reading) : Type 0 where
  pub whole : whole_lines r.pending ≡ []
  pub short : length r.pending ≤ longest_line
  pub all_given : r.ended ≡ true → r.pending ≡ []

-- what `next_line` found
abbrev pub Gives : Reading → Option NumberedLine → Reading → Type 0
Gives old None new = Continues old [] new × HoldsRest new
Gives old (Some line) new = Continues old (line ∷ []) new × (length line.bytes ≤ longest_line)

-- the first of these lines has this number and is too long
abbrev pub StartsTooLong : ℕ → List NumberedLine → Type 0
StartsTooLong number [] = ⊥
StartsTooLong number (line ∷ lines) = (line.number ≡ number) × (longest_line < length line.bytes)

-- the next line is too long, whatever comes
abbrev pub IsTooLong : ℕ → Reading → Type 0
IsTooLong number r = (more : List ℕ) → StartsTooLong number (lines_from r.number (r.pending ++ more))

-- a line as the reader gives it
abbrev pub line_value : Line → NumberedLine
line_value line = record { number = line.number; bytes = line.bytes }

abbrev pub given_line : Option Line → Option NumberedLine
given_line found = option_map line_value found
