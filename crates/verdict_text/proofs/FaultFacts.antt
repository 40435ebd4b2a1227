-- Why a text isn't that of a placement, at the line that the reader names.
use Rattle.std.proofs.Common.{◌≡◌, ◌≢◌, ℕ, ◌+◌, inl, inr, List, [], ◌∷◌, ◌++◌, length, refl, sym, ap, ◌∙◌, arith}
use Rattle.std.proofs.lemmas.List.{append-nil}
use Rattle.base_types.specs.declared.verdict.placed.PlacedLine.{PlacedLine}
use Rattle.verdict_text.specs.Words.{ended, IsNumber, Lacks}
use Rattle.verdict_text.specs.Outcome.{count_text, placed_lines}
use Rattle.verdict_text.specs.Reading.{IsExplained, BeginsBy, IsBegun, IsNext, BreaksAt, IsFaultLine}
use Rattle.verdict_text.proofs.CutFacts.{no_cut}
use Rattle.verdict_text.proofs.BegunFacts.{ended_before, ended_some, joined_some, lacks_count, lines_agree, begun_front, next_in, ends_before, newlines_begun}
use Rattle.verdict_text.proofs.OneFault.{breaks_once}

fault_line : (text : List ℕ) (number : ℕ) → BreaksAt text number → (IsExplained text → ⊥) → IsFaultLine text number
fault_line text number breaks refused = record { breaks = breaks; alone = λ other also. breaks_once text other number also breaks; refused = refused }

-- no line at all

one_line_lacks : (text : List ℕ) → Lacks 10 text → IsExplained text → ⊥
one_line_lacks text lacks (lines, placed, e) =
    no_cut 10 text (count_text (length lines)) (placed_lines lines) lacks (sym e ∙ ended_before (count_text (length lines)) (placed_lines lines))

pub breaks_at_once : (text : List ℕ) → Lacks 10 text → IsFaultLine text 1
breaks_at_once text lacks =
    let none = one_line_lacks text lacks in
    fault_line text 1 (record { before = []; rest = text; parts = refl; begun = inl refl; numbered = refl; stops = inr (lacks, none) }) none

-- a first line of another form

-- the line says no count
abbrev SaysNoCount : List ℕ → Type 0
SaysNoCount line = (count : ℕ) → IsNumber count → line ≢ count_text count

first_not_begun : (line : List ℕ) → Lacks 10 line → SaysNoCount line → IsBegun (ended line) → ⊥
first_not_begun line lacks other (inl none) = ended_some line [] (append-nil (ended line) ∙ none)
first_not_begun line lacks other (inr (count, lines, by)) =
    other count by.counted (lines_agree line (count_text count) [] (placed_lines lines) lacks (lacks_count count by.counted) (append-nil (ended line) ∙ by.spelled)).0

first_not_explained : (text line after : List ℕ) → text ≡ line ++ 10 ∷ after → Lacks 10 line → SaysNoCount line → IsExplained text → ⊥
first_not_explained text line after e lacks other (lines, placed, same) =
    other (length lines) placed.counted
    (lines_agree line (count_text (length lines)) after (placed_lines lines) lacks (lacks_count (length lines) placed.counted) (ended_before line after ∙ sym e ∙ sym same)).0

pub breaks_at_first : (text line after : List ℕ) → text ≡ line ++ 10 ∷ after → Lacks 10 line → SaysNoCount line → IsFaultLine text 1
breaks_at_first text line after e lacks other = fault_line text 1
    (record { before = []; rest = text; parts = refl; begun = inl refl; numbered = refl; stops = inl (line, after, lacks, e, first_not_begun line lacks other) })
    (first_not_explained text line after e lacks other)

-- a line that can't follow

-- the line says none that may follow these
abbrev SaysNoNext : List PlacedLine → ℕ → List ℕ → Type 0
SaysNoNext lines count line = (placed : PlacedLine) → ¬ (IsNext lines count line placed)

line_not_begun : (before line : List ℕ) (count : ℕ) (lines : List PlacedLine) → BeginsBy before count lines → Lacks 10 line → SaysNoNext lines count line → IsBegun (before ++ ended line) → ⊥
line_not_begun before line count lines begun lacks other (inl none) = joined_some before line none
line_not_begun before line count lines begun lacks other (inr (n, whole, by)) =
    let next = next_in before line [] count lines n whole begun lacks by.counted by.placed by.room (ap (λ l. before ++ l) (append-nil (ended line)) ∙ by.spelled) in
    other next.0 next.1

line_not_explained : (text before line after : List ℕ) (count : ℕ) (lines : List PlacedLine) → text ≡ before ++ (line ++ 10 ∷ after) → BeginsBy before count lines → Lacks 10 line
    → SaysNoNext lines count line → IsExplained text → ⊥
line_not_explained text before line after count lines e begun lacks other (whole, placed, same) =
    let next = next_in before line after count lines (length whole) whole begun lacks placed.counted placed (omega arith)
    (ap (λ l. before ++ l) (ended_before line after) ∙ sym e ∙ sym same) in
    other next.0 next.1

pub breaks_at_line : (text before line after : List ℕ) (count : ℕ) (lines : List PlacedLine) → text ≡ before ++ (line ++ 10 ∷ after) → BeginsBy before count lines → Lacks 10 line
    → SaysNoNext lines count line → IsFaultLine text (length lines + 2)
breaks_at_line text before line after count lines e begun lacks other = fault_line text (length lines + 2)
    (record {
      before = before;
      rest = line ++ 10 ∷ after;
      parts = e;
      begun = inr (count, lines, begun);
      numbered = newlines_begun before count lines begun;
      stops = inl (line, after, lacks, refl, line_not_begun before line count lines begun lacks other);
    })
    (line_not_explained text before line after count lines e begun lacks other)

-- a line without its newline, or lines that are missing

end_not_explained : (before rest : List ℕ) (count : ℕ) (lines : List PlacedLine) → BeginsBy before count lines → Lacks 10 rest → (rest ≡ [] → count ≢ length lines) → IsExplained (before ++ rest) → ⊥
end_not_explained before rest count lines begun lacks unended (whole, placed, same) =
    let split = begun_front before rest count lines (length whole) whole begun placed.counted placed.fits (sym same) in
    ends_before lines whole rest count split.0 split.1 lacks unended

pub breaks_at_end : (text before rest : List ℕ) (count : ℕ) (lines : List PlacedLine) → text ≡ before ++ rest → BeginsBy before count lines → Lacks 10 rest
    → (rest ≡ [] → count ≢ length lines) → IsFaultLine text (length lines + 2)
breaks_at_end text before rest count lines e begun lacks unended =
    let none = end_not_explained before rest count lines begun lacks unended in
    fault_line text (length lines + 2)
    (record {
      before = before;
      rest = rest;
      parts = e;
      begun = inr (count, lines, begun);
      numbered = newlines_begun before count lines begun;
      stops = inr (lacks, none);
    })
    (λ is. none (rw e at is))
