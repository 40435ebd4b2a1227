-- A text breaks at one line alone.
use Rattle.std.proofs.Common.{◌≡◌, ℕ, ◌+◌, ◌⊎◌, inl, inr, List, [], ◌∷◌, ◌++◌, length, refl, sym, ap, ◌∙◌, append_assoc, length-append, arith}
use Rattle.std.specs.Prelude.{All, count_by, ◌==◌}
use Rattle.std.proofs.lemmas.List.{append-nil}
use Rattle.std.proofs.lemmas.List.Elements.{All-head, All-tail}
use Rattle.base_types.specs.declared.verdict.placed.PlacedLine.{PlacedLine}
use Rattle.verdict_text.specs.Words.{ended, IsNumber}
use Rattle.verdict_text.specs.Placed.{placed_text, FitsPlaced}
use Rattle.verdict_text.specs.Outcome.{count_text, placed_lines}
use Rattle.verdict_text.specs.Reading.{BeginsBy, IsNext, Stops, BreaksAt}
use Rattle.verdict_text.proofs.CutFacts.{no_cut}
use Rattle.verdict_text.proofs.PlacedFacts.{placed_agree}
use Rattle.verdict_text.proofs.BegunFacts.{lacks_placed, lacks_count, ended_before, lines_agree, counts_agree, rises_before, begins_more, no_placement, newlines_begun}

-- the lines of the first text are the front of those of the second
pub record GoesOn (lines more : List PlacedLine) (rest left : List ℕ) : Type 0 where
  pub tail : List PlacedLine
  pub joined : more ≡ lines ++ tail
  pub follows : rest ≡ placed_lines tail ++ left
  pub fits : All FitsPlaced tail

goes_on_behind : (line : PlacedLine) (lines more : List PlacedLine) (rest left : List ℕ) → GoesOn lines more rest left → GoesOn (line ∷ lines) (line ∷ more) rest left
goes_on_behind line lines more rest left is = record { tail = is.tail; joined = ap (λ l. line ∷ l) is.joined; follows = is.follows; fits = is.fits }

one_goes_on : (a b : List PlacedLine) (r s : List ℕ) → All FitsPlaced a → All FitsPlaced b → placed_lines a ++ r ≡ placed_lines b ++ s → GoesOn a b r s ⊎ GoesOn b a s r
one_goes_on [] b r s na nb e = inl (record { tail = b; joined = refl; follows = e; fits = nb })
one_goes_on (x ∷ a) [] r s na nb e = inr (record { tail = x ∷ a; joined = refl; follows = sym e; fits = na })
one_goes_on (x ∷ a) (y ∷ b) r s na nb e =
    let fx = All-head FitsPlaced x a na in
    let fy = All-head FitsPlaced y b nb in
    let split_a = append_assoc (ended (placed_text x)) (placed_lines a) r in
    let split_b = append_assoc (ended (placed_text y)) (placed_lines b) s in
    let same = lines_agree (placed_text x) (placed_text y) (placed_lines a ++ r) (placed_lines b ++ s) (lacks_placed x fx) (lacks_placed y fy) (sym split_a ∙ e ∙ split_b) in
    let first : x ≡ y = placed_agree x y fx fy same.0 in
    elim (one_goes_on a b r s (All-tail FitsPlaced x a na) (All-tail FitsPlaced y b nb) same.1) [
      | inl on ↦ inl (rw (← first) (goes_on_behind x a b r s on))
      | inr on ↦ inr (rw (← first) (goes_on_behind x b a s r on))
    ]

-- a text doesn't stop where it goes on to more lines
goes_on_then : (before rest left : List ℕ) (count : ℕ) (lines tail : List PlacedLine) (next : PlacedLine) (text : List ℕ) → BeginsBy before count lines
    → BeginsBy text count (lines ++ next ∷ tail) → All FitsPlaced (next ∷ tail) → rest ≡ placed_lines (next ∷ tail) ++ left → Stops before rest → ⊥
goes_on_then before rest left count lines tail next text begun more fits e stops =
    let fit = All-head FitsPlaced next tail fits in
    let split : rest ≡ ended (placed_text next) ++ (placed_lines tail ++ left) = e ∙ append_assoc (ended (placed_text next)) (placed_lines tail) left in
    elim stops [
      | inl (line, after, lacks, cut, unbegun) ↦
          let same = lines_agree line (placed_text next) after (placed_lines tail ++ left) lacks (lacks_placed next fit) (ended_before line after ∙ sym cut ∙ split) in
          let room = more.room in
          let is : IsNext lines count line next = record {
            fits = fit;
            spelled = same.0;
            rises = rises_before lines tail next more.placed.rising;
            room = omega (arith, length-append lines (next ∷ tail));
          } in
          unbegun (inr (count, lines ++ next ∷ [], begins_more before line count lines next begun is))
      | inr (lacks, unexplained) ↦ no_cut 10 rest (placed_text next) (placed_lines tail ++ left) lacks (split ∙ ended_before (placed_text next) (placed_lines tail ++ left))
    ]

same_lines : (before rest left : List ℕ) (count : ℕ) (a b : List PlacedLine) (text : List ℕ) → BeginsBy before count a → BeginsBy text count b → GoesOn a b rest left → Stops before rest → length a ≡ length b
same_lines before rest left count a b text begun more on stops = no_tail on.tail on.joined on.follows on.fits
  where
    no_tail : (tail : List PlacedLine) → b ≡ a ++ tail → rest ≡ placed_lines tail ++ left → All FitsPlaced tail → length a ≡ length b
    no_tail [] joined follows fits = ap length (sym (append-nil a) ∙ sym joined)
    no_tail (next ∷ tail) joined follows fits = absurd (goes_on_then before rest left count a tail next text begun (rw joined at more) fits follows stops)

-- nor where it goes on to its first line
starts_then : (before rest left : List ℕ) (count : ℕ) → before ≡ [] → IsNumber count → rest ≡ ended (count_text count) ++ left → Stops before rest → ⊥
starts_then before rest left count none small e stops = elim stops [
  | inl (line, after, lacks, cut, unbegun) ↦
      let same = lines_agree line (count_text count) after left lacks (lacks_count count small) (ended_before line after ∙ sym cut ∙ e) in
      unbegun (inr (
        count,
        [],
        record {
          counted = small;
          placed = no_placement;
          room = omega arith;
          spelled = ap (λ l. l ++ ended line) none ∙ ap ended same.0 ∙ sym (append-nil (ended (count_text count)));
        },
      ))
  | inr (lacks, unexplained) ↦ no_cut 10 rest (count_text count) left lacks (e ∙ ended_before (count_text count) left)
]

-- a front without lines, and one that has some
apart : (text before rest text_before left : List ℕ) (count : ℕ) (lines : List PlacedLine) → before ≡ [] → BeginsBy text_before count lines → text ≡ before ++ rest → text ≡ text_before ++ left → Stops before rest → ⊥
apart text before rest text_before left count lines none begun e other stops =
    let whole : rest ≡ text = ap (λ l. l ++ rest) (sym none) ∙ sym e in
    starts_then before rest (placed_lines lines ++ left) count none begun.counted
    (whole ∙ other ∙ ap (λ l. l ++ left) begun.spelled ∙ append_assoc (ended (count_text count)) (placed_lines lines) left) stops

pub breaks_once : (text : List ℕ) (m n : ℕ) → BreaksAt text m → BreaksAt text n → m ≡ n
breaks_once text m n a b = elim a.begun [
  | inl none_a ↦ elim b.begun [
    | inl none_b ↦ sym a.numbered ∙ ap (λ l. count_by (λ byte. byte == 10) l + 1) (none_a ∙ sym none_b) ∙ b.numbered
    | inr (count, lines, begun) ↦ absurd (apart text a.before a.rest b.before b.rest count lines none_a begun a.parts b.parts a.stops)
  ]
  | inr (count, lines, begun) ↦ elim b.begun [
    | inl none_b ↦ absurd (apart text b.before b.rest a.before a.rest count lines none_b begun b.parts a.parts b.stops)
    | inr (other, more, also) ↦
        let split_a = ap (λ l. l ++ a.rest) begun.spelled ∙ append_assoc (ended (count_text count)) (placed_lines lines) a.rest in
        let split_b = ap (λ l. l ++ b.rest) also.spelled ∙ append_assoc (ended (count_text other)) (placed_lines more) b.rest in
        let same = counts_agree count other (placed_lines lines ++ a.rest) (placed_lines more ++ b.rest) begun.counted also.counted (sym split_a ∙ sym a.parts ∙ b.parts ∙ split_b) in
        let counted = same.0 in
        let here : BeginsBy b.before count more = rw counted also in
        let long : length lines ≡ length more = elim (one_goes_on lines more a.rest b.rest begun.placed.fits also.placed.fits same.1) [
          | inl on ↦ same_lines a.before a.rest b.rest count lines more b.before begun here on a.stops
          | inr on ↦ sym (same_lines b.before b.rest a.rest count more lines a.before here begun on b.stops)
        ] in
        let first = newlines_begun a.before count lines begun in
        let second = newlines_begun b.before other more also in
        let at_a = a.numbered in
        let at_b = b.numbered in
        omega (arith, first, second, at_a, at_b, long)
  ]
]
