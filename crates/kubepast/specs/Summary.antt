-- The summary of a made case.
use Rattle.std.specs.Prelude.{ℕ, Bool, true, false, List, [], ◌∷◌, ◌++◌, codes, count_by, decimal}
use Rattle.base_types.specs.declared.verdict.placed.Outcome.{Outcome}
use Rattle.base_types.specs.declared.verdict.placed.Outcome.TheVariants.{Explained, Unexplained}
use Rattle.base_types.specs.declared.verdict.placed.PlacedAnswer.{PlacedAnswer}
use Rattle.base_types.specs.declared.verdict.placed.PlacedAnswer.TheVariants.{Made, Removed, At, Nowhere}
use Rattle.base_types.specs.declared.verdict.placed.PlacedLine.{PlacedLine}
use Rattle.verdict_text.specs.Words.{ended, spaced}

abbrev pub is_made : PlacedAnswer → Bool
is_made (Made revision) = true
is_made (Removed place) = false
is_made (At place) = false
is_made Nowhere = false

abbrev pub is_removed : PlacedAnswer → Bool
is_removed (Made revision) = false
is_removed (Removed place) = true
is_removed (At place) = false
is_removed Nowhere = false

abbrev pub is_at : PlacedAnswer → Bool
is_at (Made revision) = false
is_at (Removed place) = false
is_at (At place) = true
is_at Nowhere = false

abbrev pub is_nowhere : PlacedAnswer → Bool
is_nowhere (Made revision) = false
is_nowhere (Removed place) = false
is_nowhere (At place) = false
is_nowhere Nowhere = true

-- no lines where the case is unexplained
abbrev pub lines_of : Outcome → List PlacedLine
lines_of (Explained lines) = lines
lines_of (Unexplained line audit_id reason low high writes) = []

abbrev pub verdict_word : Outcome → List ℕ
verdict_word (Explained lines) = codes "explained"
verdict_word (Unexplained line audit_id reason low high writes) = codes "unexplained"

-- a word, and how many lines of the placement have it
abbrev pub count_text : List ℕ → (PlacedAnswer → Bool) → List PlacedLine → List ℕ
count_text word has lines = ended (spaced (word ∷ decimal (count_by (λ line. has line.answer) lines) ∷ []))

abbrev pub counts_text : List PlacedLine → List ℕ
counts_text lines =
    count_text (codes "made") is_made lines
    ++ count_text (codes "removed") is_removed lines
    ++ count_text (codes "at") is_at lines
    ++ count_text (codes "none") is_nowhere lines

abbrev pub summary_text : (number events : ℕ) → Outcome → List ℕ
summary_text number events outcome =
    ended (spaced (codes "case" ∷ decimal number ∷ decimal events ∷ []))
    ++ counts_text (lines_of outcome)
    ++ ended (verdict_word outcome)
