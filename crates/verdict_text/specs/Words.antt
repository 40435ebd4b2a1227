-- Words, lines and numbers of the texts that are printed and read.
use Rattle.std.specs.Prelude.{◌≡◌, ◌≢◌, ℕ, ◌<◌, ◌≤◌, ◌^◌, List, [], ◌∷◌, ◌++◌, length, slice_index, All}
use Rattle.std.specs.List.{join_with_byte}

-- words with one space between two of them
abbrev pub spaced : List (List ℕ) → List ℕ
spaced words = join_with_byte 32 words

-- a line is ended by one newline
abbrev pub ended : List ℕ → List ℕ
ended line = line ++ 10 ∷ []

-- a number that a text may have
abbrev pub IsNumber : ℕ → Type 0
IsNumber number = number < 2 ^ 64

-- the first byte is a digit, and it isn't a zero with more behind it
pub record BeginsPlainly (word : List ℕ) : Type 0 where
  pub some : 0 < length word
  pub above : 48 ≤ slice_index word 0
  pub below : slice_index word 0 ≤ 57
  pub alone : slice_index word 0 ≡ 48 → length word ≡ 1

-- no byte is this one
abbrev pub Lacks : ℕ → List ℕ → Type 0
Lacks byte text = All (λ other. other ≢ byte) text
