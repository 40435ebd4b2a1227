-- What is told of a log whose lines become these.
use Rattle.std.specs.Prelude.{◌≡◌, ℕ, ◌+◌, ◌≤◌, List, [], ◌∷◌, ◌++◌, length, All, slice_range, nat_lt, if◌then◌else◌}
use Rattle.std.specs.List.{flat_map}
use Rattle.log_sift.specs.declared.answer.Fate.{Fate}
use Rattle.log_sift.specs.declared.answer.Fate.TheVariants.{Blank, Stays, Left}
use Rattle.log_sift.specs.declared.answer.LeftLine.{LeftLine}
use Rattle.log_sift.specs.declared.answer.Stretch.{Stretch}
use Rattle.log_sift.specs.declared.answer.Sifting.{Sifting}
use Rattle.log_sift.specs.Cutting.{line_texts}
use Rattle.log_sift.specs.Sift.{IsSifted}

-- what stays of a line's text
abbrev pub stays_of : Fate → List ℕ → List ℕ
stays_of Blank text = text
stays_of Stays text = text
stays_of (Left cause) text = []

abbrev pub staying : List (List ℕ) → List Fate → List ℕ
staying texts [] = []
staying [] (fate ∷ fates) = []
staying (text ∷ texts) (fate ∷ fates) = stays_of fate text ++ staying texts fates

-- the lines that stay, as they stand in the log
abbrev pub kept_text : List ℕ → List Fate → List ℕ
kept_text log fates = staying (line_texts log) fates

-- the line of this number, where it is left out, before others
abbrev pub left_line : Fate → ℕ → List LeftLine → List LeftLine
left_line Blank number lines = lines
left_line Stays number lines = lines
left_line (Left cause) number lines = record { line = number; cause = cause } ∷ lines

-- the lines that are left out of those behind so many
abbrev pub left_lines : ℕ → List Fate → List LeftLine
left_lines number [] = []
left_lines number (fate ∷ fates) = left_line fate (number + 1) (left_lines (number + 1) fates)

abbrev pub count_of : Fate → ℕ
count_of Blank = 0
count_of Stays = 1
count_of (Left cause) = 0

-- how many lines stay that aren't blank
abbrev pub count_stays : List Fate → ℕ
count_stays [] = 0
count_stays (fate ∷ fates) = count_of fate + count_stays fates

pub record LiesInLog (log : List ℕ) (stretch : Stretch) : Type 0 where
  pub first : stretch.start ≤ stretch.end
  pub last : stretch.end ≤ length log

abbrev pub stretches_text : List ℕ → List Stretch → List ℕ
stretches_text log stretches = flat_map (λ stretch. slice_range log stretch.start stretch.end) stretches

pub record IsSifting (log : List ℕ) (fates : List Fate) (sifting : Sifting) : Type 0 where
  pub sifted : IsSifted log fates
  pub within : All (LiesInLog log) sifting.stays
  pub stays : stretches_text log sifting.stays ≡ kept_text log fates
  pub left : sifting.left ≡ left_lines 0 fates
  pub kept : sifting.kept ≡ count_stays fates

-- the bytes between two indexes as a stretch more, where there are any
abbrev pub with_stretch : List Stretch → ℕ → ℕ → List Stretch
with_stretch stays start end = if nat_lt start end then stays ++ record { start = start; end = end } ∷ [] else stays

-- what was told, and what becomes of the line of this number, before which all lines from an index on stay
abbrev pub noted : Sifting → ℕ → ℕ → ℕ → Fate → Sifting
noted sifting from start number Blank = sifting
noted sifting from start number Stays = record sifting { kept = sifting.kept + 1 }
noted sifting from start number (Left cause) =
    record sifting { stays = with_stretch sifting.stays from start; left = sifting.left ++ record { line = number; cause = cause } ∷ [] }

-- from where on all lines stay, behind a line that becomes this
abbrev pub stays_from : ℕ → ℕ → Fate → ℕ
stays_from from next Blank = from
stays_from from next Stays = from
stays_from from next (Left cause) = next
