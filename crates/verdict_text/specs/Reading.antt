-- Which texts are placements, and the first line at which one can't be continued.
use Rattle.std.specs.Prelude.{◌≡◌, ℕ, ◌+◌, ◌<◌, ◌≤◌, ◌==◌, ◌⊎◌, List, [], ◌∷◌, ◌++◌, length, All, count_by}
use Rattle.base_types.specs.declared.verdict.placed.PlacedLine.{PlacedLine}
use Rattle.base_types.specs.Placements.{RisesByLine}
use Rattle.verdict_text.specs.Words.{ended, IsNumber, Lacks}
use Rattle.verdict_text.specs.Placed.{placed_text, FitsPlaced}
use Rattle.verdict_text.specs.Outcome.{count_text, placed_lines, explained_text}

-- the lines of a placement, as far as a text can say them
pub record IsPlacement (lines : List PlacedLine) : Type 0 where
  pub fits : All FitsPlaced lines
  pub rising : RisesByLine lines
  pub counted : IsNumber (length lines)

-- the text of an explained outcome
abbrev pub IsExplained : List ℕ → Type 0
IsExplained text = (lines : List PlacedLine) × IsPlacement lines × (explained_text lines ≡ text)

-- whole lines, line by line, with which such a text may begin: `explained N`, and at most N placed lines
pub record BeginsBy (text : List ℕ) (count : ℕ) (lines : List PlacedLine) : Type 0 where
  pub counted : IsNumber count
  pub placed : IsPlacement lines
  pub room : length lines ≤ count
  pub spelled : text ≡ ended (count_text count) ++ placed_lines lines

-- the same, or no line at all
abbrev pub IsBegun : List ℕ → Type 0
IsBegun text = (text ≡ []) ⊎ ((count : ℕ) × (lines : List PlacedLine) × BeginsBy text count lines)

-- the line says a placed line that may follow these, where `explained N` says so many
pub record IsNext (lines : List PlacedLine) (count : ℕ) (line : List ℕ) (placed : PlacedLine) : Type 0 where
  pub fits : FitsPlaced placed
  pub spelled : line ≡ placed_text placed
  pub rises : All (λ earlier. earlier.line < placed.line) lines
  pub room : length lines < count

-- the rest's first line can't follow the lines before it, or the text breaks off in place of that line
abbrev pub Stops : List ℕ → List ℕ → Type 0
Stops before rest =
    ((line : List ℕ) × (after : List ℕ) × Lacks 10 line × (rest ≡ line ++ 10 ∷ after) × (IsBegun (before ++ ended line) → ⊥))
    ⊎ (Lacks 10 rest × (IsExplained (before ++ rest) → ⊥))

-- the first line, by its number from 1, at which a text can't be continued to that of an explained
-- outcome, or at which it breaks off
pub record BreaksAt (text : List ℕ) (number : ℕ) : Type 0 where
  pub before : List ℕ
  pub rest : List ℕ
  pub parts : text ≡ before ++ rest
  pub begun : IsBegun before
  pub numbered : count_by (λ byte. byte == 10) before + 1 ≡ number
  pub stops : Stops before rest

-- that line is the only one, and no placement has this text
pub record IsFaultLine (text : List ℕ) (number : ℕ) : Type 0 where
  pub breaks : BreaksAt text number
  pub alone : (other : ℕ) → BreaksAt text other → other ≡ number
  pub refused : IsExplained text → ⊥
