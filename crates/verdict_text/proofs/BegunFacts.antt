-- A text is cut into its lines in one way, so what it begins with says its count and its lines.
use Rattle.std.proofs.Common.{◌≡◌, ◌≢◌, ℕ, ◌+◌, ◌<◌, ◌≤◌, List, [], ◌∷◌, ◌++◌, length, cond, ◌==◌, refl, sym, ap, ◌∙◌, append_assoc, length-append, arith}
use Rattle.std.specs.Prelude.{decimal, codes, All, count_by}
use Rattle.std.proofs.lemmas.List.{append-nil, append_cancel_left, get_or_at, get_or_append_left}
use Rattle.std.proofs.lemmas.List.Elements.{All-nil, All-head, All-tail, All-push}
use Rattle.std.proofs.lemmas.List.Quantifiers.{all_pairs_push}
use Rattle.std.proofs.lemmas.List.Sums.{sum_by-cons, sum_by-append}
use Rattle.std.proofs.lemmas.Bool.Decides.{nat_tests}
use Rattle.std.proofs.lemmas.List.Concat.{flat_map-append}
use Rattle.std.proofs.lemmas.Fmt.{decimal_injective}
use Rattle.base_types.specs.declared.verdict.placed.PlacedLine.{PlacedLine}
use Rattle.base_types.specs.Placements.{RisesByLine}
use Rattle.verdict_text.specs.Words.{ended, IsNumber, Lacks}
use Rattle.verdict_text.specs.Placed.{placed_text, FitsPlaced}
use Rattle.verdict_text.specs.Outcome.{count_text, placed_lines, explained_text}
use Rattle.verdict_text.specs.Reading.{IsPlacement, BeginsBy, IsNext}
use Rattle.verdict_text.proofs.CutFacts.{first_cut, no_cut}
use Rattle.verdict_text.proofs.PlacedFacts.{placed_agree, shown-placed, shown-count, lacks-shown}

pub lacks_placed : (placed : PlacedLine) → FitsPlaced placed → Lacks 10 (placed_text placed)
lacks_placed placed fits = lacks-shown (placed_text placed) (shown-placed placed fits)

pub lacks_count : (count : ℕ) → IsNumber count → Lacks 10 (count_text count)
lacks_count count small = lacks-shown (count_text count) (shown-count count small)

-- an ended line and what follows it
pub ended_before : (line rest : List ℕ) → ended line ++ rest ≡ line ++ 10 ∷ rest
ended_before line rest = append_assoc line (10 ∷ []) rest

pub ended_some : (line rest : List ℕ) → ended line ++ rest ≢ []
ended_some [] rest e = cc
ended_some (b ∷ line) rest e = cc

pub lines_agree : (a b r s : List ℕ) → Lacks 10 a → Lacks 10 b → ended a ++ r ≡ ended b ++ s → (a ≡ b) × (r ≡ s)
lines_agree a b r s na nb e = first_cut 10 a b r s na nb (sym (ended_before a r) ∙ e ∙ ended_before b s)

pub counts_agree : (m n : ℕ) (r s : List ℕ) → IsNumber m → IsNumber n → ended (count_text m) ++ r ≡ ended (count_text n) ++ s → (m ≡ n) × (r ≡ s)
counts_agree m n r s m_small n_small e =
    let same = lines_agree (count_text m) (count_text n) r s (lacks_count m m_small) (lacks_count n n_small) e in
    (decimal_injective m n m_small n_small (append_cancel_left (codes "explained ") (decimal m) (decimal n) same.0), same.1)

-- what a list of placed lines begins with is a front of it
pub record IsFront (front whole : List PlacedLine) (rest : List ℕ) : Type 0 where
  pub tail : List PlacedLine
  pub joined : whole ≡ front ++ tail
  pub left : rest ≡ placed_lines tail
  pub fits : All FitsPlaced tail

pub front_of : (front whole : List PlacedLine) (rest : List ℕ) → All FitsPlaced front → All FitsPlaced whole → placed_lines front ++ rest ≡ placed_lines whole → IsFront front whole rest
front_of [] whole rest nf nw e = record { tail = whole; joined = refl; left = e; fits = nw }
front_of (a ∷ front) [] rest nf nw e = absurd (ended_some (placed_text a) (placed_lines front ++ rest) (sym (append_assoc (ended (placed_text a)) (placed_lines front) rest) ∙ e))
front_of (a ∷ front) (b ∷ whole) rest nf nw e =
    let fa = All-head FitsPlaced a front nf in
    let fb = All-head FitsPlaced b whole nw in
    let same = lines_agree (placed_text a) (placed_text b) (placed_lines front ++ rest) (placed_lines whole) (lacks_placed a fa) (lacks_placed b fb)
    (sym (append_assoc (ended (placed_text a)) (placed_lines front) rest) ∙ e) in
    let more = front_of front whole rest (All-tail FitsPlaced a front nf) (All-tail FitsPlaced b whole nw) same.1 in
    let first : a ≡ b = placed_agree a b fa fb same.0 in
    record { tail = more.tail; joined = ap (λ p. p ∷ whole) (sym first) ∙ ap (λ l. a ∷ l) more.joined; left = more.left; fits = more.fits }

-- the text begins with these lines, and goes on to be explained by those
pub begun_front : (before rest : List ℕ) (count : ℕ) (lines : List PlacedLine) (n : ℕ) (whole : List PlacedLine)
    → BeginsBy before count lines → IsNumber n → All FitsPlaced whole → before ++ rest ≡ ended (count_text n) ++ placed_lines whole → (count ≡ n) × IsFront lines whole rest
begun_front before rest count lines n whole begun small fits e =
    let split = append_assoc (ended (count_text count)) (placed_lines lines) rest in
    let same = counts_agree count n (placed_lines lines ++ rest) (placed_lines whole) begun.counted small (sym split ∙ ap (λ l. l ++ rest) (sym begun.spelled) ∙ e) in
    (same.0, front_of lines whole rest begun.placed.fits fits same.1)

no_lines : (tail : List PlacedLine) → [] ≡ placed_lines tail → tail ≡ []
no_lines [] e = refl
no_lines (p ∷ tail) e = absurd (ended_some (placed_text p) (placed_lines tail) (sym e))

whole_front : (front whole : List PlacedLine) → IsFront front whole [] → whole ≡ front
whole_front front whole is = is.joined ∙ ap (λ t. front ++ t) (no_lines is.tail is.left) ∙ append-nil front

-- a text has one reading
pub explained_agree : (a b : List PlacedLine) → IsPlacement a → IsPlacement b → explained_text a ≡ explained_text b → a ≡ b
explained_agree a b na nb e =
    let same = counts_agree (length a) (length b) (placed_lines a) (placed_lines b) na.counted nb.counted e in
    sym (whole_front a b (front_of a b [] na.fits nb.fits (append-nil (placed_lines a) ∙ same.1)))

pub no_placement : IsPlacement []
no_placement = record { fits = All-nil FitsPlaced; rising = λ i j d before within. absurd (omega arith); counted = omega arith }

-- one more line

pub rises_before : (lines tail : List PlacedLine) (placed : PlacedLine) → RisesByLine (lines ++ placed ∷ tail) → All (λ earlier. earlier.line < placed.line) lines
rises_before lines tail placed rising = λ k d within.
    let inside : length lines < length (lines ++ placed ∷ tail) = omega (arith, length-append lines (placed ∷ tail)) in
    let pair = rising k (length lines) d within inside in
    let last = get_or_at lines placed tail d (length lines) refl in
    let here = get_or_append_left lines (placed ∷ tail) d k within in
    rw here at (rw last at pair)

pub begins_more : (before line : List ℕ) (count : ℕ) (lines : List PlacedLine) (placed : PlacedLine) → BeginsBy before count lines → IsNext lines count line placed
    → BeginsBy (before ++ ended line) count (lines ++ placed ∷ [])
begins_more before line count lines placed begun next =
    let longer = length-append lines (placed ∷ []) in
    let room = next.room in
    let small = begun.counted in
    record {
      counted = small;
      placed = record {
        fits = All-push FitsPlaced lines placed begun.placed.fits next.fits;
        rising = all_pairs_push (λ a b. a.line < b.line) lines placed begun.placed.rising next.rises;
        counted = omega (arith, longer);
      };
      room = omega (arith, longer);
      spelled =
          ap (λ l. l ++ ended line) begun.spelled
          ∙ append_assoc (ended (count_text count)) (placed_lines lines) (ended line)
          ∙ ap (λ l. ended (count_text count) ++ (placed_lines lines ++ l)) (ap ended next.spelled ∙ sym (append-nil (ended (placed_text placed))))
          ∙ ap (λ l. ended (count_text count) ++ l) (sym (flat_map-append (λ placed. ended (placed_text placed)) lines (placed ∷ [])));
    }

-- where more lines follow a front, the next is one that may
next_of : (lines tail : List PlacedLine) (line after : List ℕ) (count : ℕ) → ended line ++ after ≡ placed_lines tail → All FitsPlaced tail → RisesByLine (lines ++ tail)
    → length (lines ++ tail) ≤ count → Lacks 10 line → (placed : PlacedLine) × IsNext lines count line placed
next_of lines [] line after count e fits rising room whole = absurd (ended_some line after e)
next_of lines (placed ∷ tail) line after count e fits rising room whole =
    let fit = All-head FitsPlaced placed tail fits in
    let same = lines_agree line (placed_text placed) after (placed_lines tail) whole (lacks_placed placed fit) e in
    (placed, record { fits = fit; spelled = same.0; rises = rises_before lines tail placed rising; room = omega (arith, length-append lines (placed ∷ tail)) })

pub next_in : (before line after : List ℕ) (count : ℕ) (lines : List PlacedLine) (n : ℕ) (whole : List PlacedLine) → BeginsBy before count lines → Lacks 10 line
    → IsNumber n → IsPlacement whole → length whole ≤ n → before ++ (ended line ++ after) ≡ ended (count_text n) ++ placed_lines whole
    → (placed : PlacedLine) × IsNext lines count line placed
next_in before line after count lines n whole begun lacks small placed room e =
    let split = begun_front before (ended line ++ after) count lines n whole begun small placed.fits e in
    let same = split.0 in
    let front = split.1 in
    next_of lines front.tail line after count front.left front.fits (rw front.joined at placed.rising) (omega (arith, ap length front.joined)) lacks

pub joined_some : (xs line : List ℕ) → xs ++ ended line ≢ []
joined_some [] line e = ended_some line [] (append-nil (ended line) ∙ e)
joined_some (x ∷ xs) line e = cc

-- a rest without a newline is no line
no_rest : (tail : List PlacedLine) (rest : List ℕ) → rest ≡ placed_lines tail → Lacks 10 rest → tail ≡ []
no_rest [] rest e lacks = refl
no_rest (placed ∷ tail) rest e lacks = absurd (no_cut 10 rest (placed_text placed) (placed_lines tail) lacks (e ∙ ended_before (placed_text placed) (placed_lines tail)))

pub ends_before : (lines whole : List PlacedLine) (rest : List ℕ) (count : ℕ) → count ≡ length whole → IsFront lines whole rest → Lacks 10 rest → (rest ≡ [] → count ≢ length lines) → ⊥
ends_before lines whole rest count counted front lacks unended =
    let none = no_rest front.tail rest front.left lacks in
    let empty : rest ≡ [] = front.left ∙ ap placed_lines none in
    let same : whole ≡ lines = front.joined ∙ ap (λ t. lines ++ t) none ∙ append-nil lines in
    unended empty (counted ∙ ap length same)

-- why a text stops

abbrev ends : ℕ → ℕ
ends byte = cond (byte == 10) 1 0

abbrev newlines : List ℕ → ℕ
newlines text = count_by (λ byte. byte == 10) text

none_ends : (b : ℕ) → b ≢ 10 → ends b ≡ 0
none_ends b other = grind (arith, nat_tests)

newlines_lacking : (text : List ℕ) → Lacks 10 text → newlines text ≡ 0
newlines_lacking [] lacks = refl
newlines_lacking (b ∷ text) lacks =
    let other = All-head (λ b. b ≢ 10) b text lacks in
    let none : ends b ≡ 0 = none_ends b other in
    let rest = newlines_lacking text (All-tail (λ b. b ≢ 10) b text lacks) in
    let both = sum_by-cons ends b text in
    omega (arith, none, rest, both)

newlines_ended : (line rest : List ℕ) → Lacks 10 line → newlines (ended line ++ rest) ≡ newlines rest + 1
newlines_ended line rest lacks =
    let own = newlines_lacking line lacks in
    let both = sum_by-append ends (ended line) rest in
    let line_both = sum_by-append ends line (10 ∷ []) in
    omega (arith, own, both, line_both)

newlines_lines : (lines : List PlacedLine) → All FitsPlaced lines → newlines (placed_lines lines) ≡ length lines
newlines_lines [] fits = refl
newlines_lines (placed ∷ lines) fits =
    newlines_ended (placed_text placed) (placed_lines lines) (lacks_placed placed (All-head FitsPlaced placed lines fits))
    ∙ ap (λ n. n + 1) (newlines_lines lines (All-tail FitsPlaced placed lines fits)) ∙ omega arith

pub newlines_begun : (before : List ℕ) (count : ℕ) (lines : List PlacedLine) → BeginsBy before count lines → newlines before + 1 ≡ length lines + 2
newlines_begun before count lines begun =
    let all = ap newlines begun.spelled ∙ newlines_ended (count_text count) (placed_lines lines) (lacks_count count begun.counted) in
    let rest = newlines_lines lines begun.placed.fits in
    omega (arith, all, rest)

pub parts_more : (text before rest line after : List ℕ) → text ≡ before ++ rest → rest ≡ line ++ 10 ∷ after → text ≡ (before ++ ended line) ++ after
parts_more text before rest line after e cut = e ∙ ap (λ l. before ++ l) (cut ∙ sym (ended_before line after)) ∙ sym (append_assoc before (ended line) after)

-- all lines are there, and nothing follows
pub whole_text : (text before rest : List ℕ) (count : ℕ) (lines : List PlacedLine) → text ≡ before ++ rest → BeginsBy before count lines → rest ≡ [] → length lines ≡ count → explained_text lines ≡ text
whole_text text before rest count lines e begun none counted =
    sym (e ∙ ap (λ l. before ++ l) none ∙ append-nil before ∙ begun.spelled ∙ ap (λ n. ended (count_text n) ++ placed_lines lines) (sym counted))
