-- How long the text of a placement is.
use Rattle.std.proofs.Common.{◌≡◌, ℕ, zero, suc, ◌+◌, ◌-◌, ◌*◌, ◌≤◌, List, [], ◌∷◌, length, Option, Some, None, slice_get, codes, decimal, refl, ap, arith}
use Rattle.std.proofs.lemmas.Fmt.{length-decimal-le}
use Rattle.std.proofs.lemmas.List.{length-append}
use Rattle.base_types.specs.declared.verdict.placed.PlacedAnswer.{PlacedAnswer}
use Rattle.base_types.specs.declared.verdict.placed.PlacedAnswer.TheVariants.{Made, Removed, At, Nowhere}
use Rattle.base_types.specs.declared.verdict.placed.PlacedDecision.{PlacedDecision}
use Rattle.base_types.specs.declared.verdict.placed.PlacedLine.{PlacedLine}
use Rattle.base_types.specs.declared.verdict.placed.Places.{Places}
use Rattle.base_types.specs.declared.kubernetes.request.Decision.{Decision}
use Rattle.base_types.specs.declared.kubernetes.request.Decision.TheVariants.{Allow, Forbid}
use Rattle.verdict_text.specs.Outcome.{explained_text, count_text, placed_lines}
use Rattle.verdict_text.specs.Placed.{FitsAnswer, FitsDecision, FitsPlaced, FitsPlaces, answer_text, decision_text, decision_word, placed_text, places_text}
use Rattle.verdict_text.specs.Words.{IsNumber, ended, spaced}

number_short : (n : ℕ) → IsNumber n → length (decimal n) ≤ 20
number_short n small = length-decimal-le 20 n (omega arith) (omega (arith, small)) small

spaced_long : (word next : List ℕ) (words : List (List ℕ)) → length (spaced (word ∷ next ∷ words)) ≡ length word + suc (length (spaced (next ∷ words)))
spaced_long word next words = length-append word (32 ∷ spaced (next ∷ words))

ended_long : (line : List ℕ) → length (ended line) ≡ length line + 1
ended_long line = length-append line (10 ∷ [])

answer_short : (answer : PlacedAnswer) → FitsAnswer answer → length (answer_text answer) ≤ 28
answer_short (Made revision) fits = let n = number_short revision fits in omega (arith, n)
answer_short (Removed place) fits = let n = number_short place fits in omega (arith, n)
answer_short (At place) fits = let n = number_short place fits in omega (arith, n)
answer_short Nowhere fits = omega arith

word_short : (decision : Decision) → length (decision_word decision) ≤ 6
word_short Allow = omega arith
word_short Forbid = omega arith

places_short : (places : Places) → FitsPlaces places → length (places_text places) ≤ 83
places_short places fits =
    let a = number_short places.roles fits.roles in
    let b = number_short places.cluster_roles fits.cluster_roles in
    let c = number_short places.bindings fits.bindings in
    let d = number_short places.cluster_bindings fits.cluster_bindings in
    let one = spaced_long (decimal places.roles) (decimal places.cluster_roles) (decimal places.bindings ∷ decimal places.cluster_bindings ∷ []) in
    let two = spaced_long (decimal places.cluster_roles) (decimal places.bindings) (decimal places.cluster_bindings ∷ []) in
    let three = spaced_long (decimal places.bindings) (decimal places.cluster_bindings) [] in
    omega (arith, a, b, c, d, one, two, three)

decision_short : (decision : Option PlacedDecision) → FitsDecision decision → length (decision_text decision) ≤ 90
decision_short None fits = omega arith
decision_short (Some judged) fits =
    let word = word_short judged.decision in
    let places = places_short judged.places fits in
    let whole = spaced_long (decision_word judged.decision) (places_text judged.places) [] in
    omega (arith, word, places, whole)

-- a placed line without its decision
line_long : (placed : PlacedLine) → FitsPlaced placed → length (ended (placed_text placed)) ≤ length (decision_text placed.decision) + 51
line_long placed fits =
    let number = number_short placed.line fits.line in
    let answer = answer_short placed.answer fits.answer in
    let one = spaced_long (decimal placed.line) (answer_text placed.answer) (decision_text placed.decision ∷ []) in
    let two = spaced_long (answer_text placed.answer) (decision_text placed.decision) [] in
    let whole = ended_long (placed_text placed) in
    omega (arith, number, answer, one, two, whole)

line_short : (placed : PlacedLine) → FitsPlaced placed → length (ended (placed_text placed)) ≤ 141
line_short placed fits =
    let line = line_long placed fits in
    let decision = decision_short placed.decision fits.decision in
    omega (arith, line, decision)

-- a decision is written where it is judged
undecided_short : (placed : PlacedLine) → FitsPlaced placed → placed.decision ≡ None → length (ended (placed_text placed)) ≤ 55
undecided_short placed fits none =
    let line = line_long placed fits in
    let decision = ap (λ d. length (decision_text d)) none in
    omega (arith, line, decision)

-- the lines are such as a text may have, and those from a number on have no decision
abbrev pub AreShort : ℕ → List PlacedLine → Type 0
AreShort number lines = (k : ℕ) (placed : PlacedLine) → slice_get lines k ≡ Some placed → FitsPlaced placed × (number ≤ k → placed.decision ≡ None)

lines_short : (number : ℕ) (lines : List PlacedLine) → AreShort number lines → length (placed_lines lines) ≤ 141 * number + 55 * (length lines - number)
lines_short number [] short = omega arith
lines_short zero (placed ∷ lines) short =
    let first = short 0 placed refl in
    let line = undecided_short placed first.0 (first.1 (omega arith)) in
    let others = lines_short zero lines (λ k p at. ((short (suc k) p at).0, λ le. (short (suc k) p at).1 (omega arith))) in
    let whole = length-append (ended (placed_text placed)) (placed_lines lines) in
    omega (arith, line, others, whole)
lines_short (suc number) (placed ∷ lines) short =
    let first = short 0 placed refl in
    let line = line_short placed first.0 in
    let others = lines_short number lines (λ k p at. ((short (suc k) p at).0, λ le. (short (suc k) p at).1 (omega (arith, le)))) in
    let whole = length-append (ended (placed_text placed)) (placed_lines lines) in
    omega (arith, line, others, whole)

pub explained_short : (number : ℕ) (lines : List PlacedLine) → IsNumber (length lines) → AreShort number lines → length (explained_text lines) ≤ 31 + 141 * number + 55 * (length lines - number)
explained_short number lines counted short =
    let count = number_short (length lines) counted in
    let words = spaced_long (codes "explained") (decimal (length lines)) [] in
    let first = ended_long (count_text (length lines)) in
    let others = lines_short number lines short in
    let whole = length-append (ended (count_text (length lines))) (placed_lines lines) in
    omega (arith, count, words, first, others, whole)
