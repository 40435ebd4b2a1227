-- The text of a placed line has one reading, and no newline.
use Rattle.std.proofs.Common.{◌≡◌, ◌≢◌, ℕ, ◌≤◌, List, [], ◌∷◌, ◌++◌, Option, Some, None, refl, sym, ap, ◌∙◌, arith, get_or, length, ltb, leb, ◌<◌, ◌||◌, ◌&&◌, true, inl, inr}
use Rattle.std.specs.Prelude.{decimal, codes, All, IsUtf8}
use Rattle.std.proofs.lemmas.List.{append_cancel_left, get_or_past}
use Rattle.std.proofs.lemmas.List.Elements.{All-nil, All-cons, All-append, All-weaker, All-get_or}
use Rattle.base_types.specs.declared.kubernetes.request.Decision.{Decision}
use Rattle.base_types.specs.declared.kubernetes.request.Decision.TheVariants.{Allow, Forbid}
use Rattle.base_types.specs.declared.verdict.placed.Places.{Places}
use Rattle.base_types.specs.declared.verdict.placed.PlacedAnswer.{PlacedAnswer}
use Rattle.base_types.specs.declared.verdict.placed.PlacedAnswer.TheVariants.{Made, Removed, At, Nowhere}
use Rattle.base_types.specs.declared.verdict.placed.PlacedDecision.{PlacedDecision}
use Rattle.base_types.specs.declared.verdict.placed.PlacedLine.{PlacedLine}
use Rattle.verdict_text.specs.Words.{IsNumber, Lacks}
use Rattle.verdict_text.specs.Placed.{answer_text, decision_text, decision_word, placed_text, places_text, FitsAnswer, FitsDecision, FitsPlaced, FitsPlaces}
use Rattle.verdict_text.proofs.NumberTexts.{IsDigit, numbers_agree, digits-decimal}
use Rattle.std.proofs.lemmas.Fmt.{decimal_injective}
use Rattle.std.proofs.lemmas.Bool.Decides.{nat_tests}
use Rattle.std.proofs.lemmas.Bool.{and_parts, cases_lt}
use Rattle.std.specs.List.{list_all}
use Rattle.std.proofs.lemmas.Str.{IsUtf8-from_ascii}
use borrow.Author.Tests.{ltb-true, leb-true}
use Rattle.verdict_text.specs.Outcome.{count_text}

-- a space or a graphic ASCII character
pub record IsShown (byte : ℕ) : Type 0 where
  pub above : 32 ≤ byte
  pub below : byte < 127

apart : (x y : List ℕ) → ltb (get_or x 0 0) (get_or y 0 0) || ltb (get_or y 0 0) (get_or x 0 0) ≡ true → x ≢ y
apart x y h e = let wrong : ltb (get_or y 0 0) (get_or y 0 0) || ltb (get_or y 0 0) (get_or y 0 0) ≡ true = rw e at h in grind (arith, nat_tests)

-- an answer with a space behind it
pub answers_agree : (a b : PlacedAnswer) (r s : List ℕ) → FitsAnswer a → FitsAnswer b → answer_text a ++ 32 ∷ r ≡ answer_text b ++ 32 ∷ s → (a ≡ b) × (r ≡ s)
answers_agree (Made m) (Made n) r s fa fb e = let same = numbers_agree m n r s fa fb (append_cancel_left (codes "made ") _ _ e) in (ap Made same.0, same.1)
answers_agree (Made m) (Removed n) r s fa fb e = absurd (apart _ _ refl e)
answers_agree (Made m) (At n) r s fa fb e = absurd (apart _ _ refl e)
answers_agree (Made m) Nowhere r s fa fb e = absurd (apart _ _ refl e)
answers_agree (Removed m) (Made n) r s fa fb e = absurd (apart _ _ refl e)
answers_agree (Removed m) (Removed n) r s fa fb e = let same = numbers_agree m n r s fa fb (append_cancel_left (codes "removed ") _ _ e) in (ap Removed same.0, same.1)
answers_agree (Removed m) (At n) r s fa fb e = absurd (apart _ _ refl e)
answers_agree (Removed m) Nowhere r s fa fb e = absurd (apart _ _ refl e)
answers_agree (At m) (Made n) r s fa fb e = absurd (apart _ _ refl e)
answers_agree (At m) (Removed n) r s fa fb e = absurd (apart _ _ refl e)
answers_agree (At m) (At n) r s fa fb e = let same = numbers_agree m n r s fa fb (append_cancel_left (codes "at ") _ _ e) in (ap At same.0, same.1)
answers_agree (At m) Nowhere r s fa fb e = absurd (apart _ _ refl e)
answers_agree Nowhere (Made n) r s fa fb e = absurd (apart _ _ refl e)
answers_agree Nowhere (Removed n) r s fa fb e = absurd (apart _ _ refl e)
answers_agree Nowhere (At n) r s fa fb e = absurd (apart _ _ refl e)
answers_agree Nowhere Nowhere r s fa fb e = (refl, append_cancel_left (codes "none ") r s e)

abbrev whole_places : ℕ → ℕ → ℕ → ℕ → Places
whole_places roles cluster_roles bindings cluster_bindings = record { roles = roles; cluster_roles = cluster_roles; bindings = bindings; cluster_bindings = cluster_bindings }

pub places_agree : (a b : Places) → FitsPlaces a → FitsPlaces b → places_text a ≡ places_text b → a ≡ b
places_agree a b fa fb e =
    let roles = numbers_agree a.roles b.roles _ _ fa.roles fb.roles e in
    let cluster_roles = numbers_agree a.cluster_roles b.cluster_roles _ _ fa.cluster_roles fb.cluster_roles roles.1 in
    let bindings = numbers_agree a.bindings b.bindings _ _ fa.bindings fb.bindings cluster_roles.1 in
    let cluster_bindings = decimal_injective a.cluster_bindings b.cluster_bindings fa.cluster_bindings fb.cluster_bindings bindings.1 in
    ap (λ n. whole_places n a.cluster_roles a.bindings a.cluster_bindings) roles.0
    ∙ ap (λ n. whole_places b.roles n a.bindings a.cluster_bindings) cluster_roles.0
    ∙ ap (λ n. whole_places b.roles b.cluster_roles n a.cluster_bindings) bindings.0
    ∙ ap (λ n. whole_places b.roles b.cluster_roles b.bindings n) cluster_bindings

pub words_agree : (a b : Decision) (r s : List ℕ) → decision_word a ++ 32 ∷ r ≡ decision_word b ++ 32 ∷ s → (a ≡ b) × (r ≡ s)
words_agree Allow Allow r s e = (refl, append_cancel_left (codes "allow ") r s e)
words_agree Allow Forbid r s e = absurd (apart _ _ refl e)
words_agree Forbid Allow r s e = absurd (apart _ _ refl e)
words_agree Forbid Forbid r s e = (refl, append_cancel_left (codes "forbid ") r s e)

no_word_none : (a : Decision) (r : List ℕ) → decision_word a ++ 32 ∷ r ≢ codes "none"
no_word_none Allow r e = apart _ _ refl e
no_word_none Forbid r e = apart _ _ refl e

abbrev whole_decision : Decision → Places → PlacedDecision
whole_decision decision places = record { decision = decision; places = places }

pub decisions_agree : (a b : Option PlacedDecision) → FitsDecision a → FitsDecision b → decision_text a ≡ decision_text b → a ≡ b
decisions_agree None None fa fb e = refl
decisions_agree None (Some b) fa fb e = absurd (no_word_none b.decision (places_text b.places) (sym e))
decisions_agree (Some a) None fa fb e = absurd (no_word_none a.decision (places_text a.places) e)
decisions_agree (Some a) (Some b) fa fb e =
    let words = words_agree a.decision b.decision _ _ e in
    let places = places_agree a.places b.places fa fb words.1 in
    ap (λ d. Some (whole_decision d a.places)) words.0 ∙ ap (λ p. Some (whole_decision b.decision p)) places

abbrev whole_placed : ℕ → PlacedAnswer → Option PlacedDecision → PlacedLine
whole_placed line answer decision = record { line = line; answer = answer; decision = decision }

pub placed_agree : (a b : PlacedLine) → FitsPlaced a → FitsPlaced b → placed_text a ≡ placed_text b → a ≡ b
placed_agree a b fa fb e =
    let lines = numbers_agree a.line b.line _ _ fa.line fb.line e in
    let answers = answers_agree a.answer b.answer _ _ fa.answer fb.answer lines.1 in
    let decisions = decisions_agree a.decision b.decision fa.decision fb.decision answers.1 in
    ap (λ n. whole_placed n a.answer a.decision) lines.0 ∙ ap (λ d. whole_placed b.line d a.decision) answers.0
    ∙ ap (λ d. whole_placed b.line b.answer d) decisions

-- each byte is a space or a graphic ASCII character

shown_word : (text : List ℕ) → list_all (λ b. leb 32 b && ltb b 127) text ≡ true → All IsShown text
shown_word [] h = All-nil IsShown
shown_word (b ∷ text) h =
    let both = and_parts (leb 32 b && ltb b 127) (list_all (λ b. leb 32 b && ltb b 127) text) h in
    let ends = and_parts (leb 32 b) (ltb b 127) both.0 in
    let above = leb-true 32 b ends.0 in
    let below = ltb-true b 127 ends.1 in
    All-cons IsShown b text (record { above = above; below = below }) (shown_word text both.1)

shown_number : (n : ℕ) → IsNumber n → All IsShown (decimal n)
shown_number n small = All-weaker IsDigit IsShown (λ b digit. record { above = omega (arith, digit.above); below = omega (arith, digit.below) }) (decimal n) (digits-decimal n small)

-- words with a space between
shown_both : (xs ys : List ℕ) → All IsShown xs → All IsShown ys → All IsShown (xs ++ 32 ∷ ys)
shown_both xs ys nx ny = All-append IsShown xs (32 ∷ ys) nx (All-cons IsShown 32 ys (record { above = omega arith; below = omega arith }) ny)

shown_answer : (answer : PlacedAnswer) → FitsAnswer answer → All IsShown (answer_text answer)
shown_answer (Made n) small = shown_both (codes "made") (decimal n) (shown_word (codes "made") refl) (shown_number n small)
shown_answer (Removed n) small = shown_both (codes "removed") (decimal n) (shown_word (codes "removed") refl) (shown_number n small)
shown_answer (At n) small = shown_both (codes "at") (decimal n) (shown_word (codes "at") refl) (shown_number n small)
shown_answer Nowhere small = shown_word (codes "none") refl

shown_decision_word : (word : Decision) → All IsShown (decision_word word)
shown_decision_word Allow = shown_word (codes "allow") refl
shown_decision_word Forbid = shown_word (codes "forbid") refl

shown_places : (places : Places) → FitsPlaces places → All IsShown (places_text places)
shown_places places fits =
    shown_both (decimal places.roles) _ (shown_number places.roles fits.roles)
    (shown_both (decimal places.cluster_roles) _ (shown_number places.cluster_roles fits.cluster_roles)
    (shown_both (decimal places.bindings) _ (shown_number places.bindings fits.bindings) (shown_number places.cluster_bindings fits.cluster_bindings)))

shown_decision : (decision : Option PlacedDecision) → FitsDecision decision → All IsShown (decision_text decision)
shown_decision None fits = shown_word (codes "none") refl
shown_decision (Some judged) fits = shown_both (decision_word judged.decision) (places_text judged.places) (shown_decision_word judged.decision) (shown_places judged.places fits)

pub shown-placed : (placed : PlacedLine) → FitsPlaced placed → All IsShown (placed_text placed)
shown-placed placed fits =
    shown_both (decimal placed.line) _ (shown_number placed.line fits.line)
    (shown_both (answer_text placed.answer) (decision_text placed.decision) (shown_answer placed.answer fits.answer) (shown_decision placed.decision fits.decision))

pub shown-count : (count : ℕ) → IsNumber count → All IsShown (count_text count)
shown-count count small = shown_both (codes "explained") (decimal count) (shown_word (codes "explained") refl) (shown_number count small)

pub lacks-shown : (text : List ℕ) → All IsShown text → Lacks 10 text
lacks-shown text shown = All-weaker IsShown (λ b. b ≢ 10) (λ b is same. let wrong : 32 ≤ 10 = rw same at is.above in omega arith) text shown

pub utf8-shown : (text : List ℕ) → All IsShown text → IsUtf8 text
utf8-shown text shown = IsUtf8-from_ascii text (λ i. elim (cases_lt i (length text)) [
  | inl within ↦ let is = All-get_or IsShown text i 0 within shown in omega (arith, is.below)
  | inr past ↦ rw (get_or_past text i 0 past) (omega arith)
])
