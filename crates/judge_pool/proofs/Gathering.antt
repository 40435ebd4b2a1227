-- Answers to all events, in order, are their claims, or their lines; events of which there is a claim have entered.
use Rattle.std.proofs.Common.{◌≡◌, ℕ, zero, suc, ◌+◌, ◌<◌, List, [], ◌∷◌, Ok, Option, Some, IfOk, length, get_or, map, slice_get, refl, sym, ap, subst, ◌∙◌, arith}
use Rattle.std.specs.List.{AllZip, range_with_len}
use Rattle.std.proofs.lemmas.List.{same_lists}
use Rattle.std.proofs.lemmas.Option.{get_or_from_slice_get, slice_get-get_or, slice_get_within}
use Rattle.std.specs.declared.result.Result.{Result}
use Rattle.base_types.specs.declared.verdict.claim.Claim.{Claim}
use Rattle.base_types.specs.declared.verdict.placed.PlacedLine.{PlacedLine}
use Rattle.judge_pool.specs.Claims.{AreClaims}
use Rattle.judge_pool.specs.Lines.{AreLines}

-- where the call for an event gives a value, it is one of the event's
abbrev pub AnswersEvent : {X E : Type 0} → (ℕ → X → Type 0) → ℕ → Result X E → Type 0
AnswersEvent Is event answer = IfOk answer (Is event)

module _ {X : Type 0} (E : Type 0) (Is : ℕ → X → Type 0) where
  -- from an event on
  gathered_from : (a n : ℕ) (xs : List X) → AllZip (AnswersEvent {E = E} Is) (range_with_len a n) (map Ok xs)
      → (length xs ≡ n) × ((k : ℕ) (d : X) → k < n → Is (a + k) (get_or xs k d))
  gathered_from a zero [] each = (refl, λ k d below. absurd (omega (arith, below)))
  gathered_from a zero (x ∷ xs) each = absurd each
  gathered_from a (suc n) [] each = absurd each
  gathered_from a (suc n) (x ∷ xs) each =
      let rest = gathered_from (a + 1) n xs each.1 in
      (ap suc rest.0, stands rest.1)
    where
      stands : ((k : ℕ) (d : X) → k < n → Is (a + 1 + k) (get_or xs k d)) → (k : ℕ) (d : X) → k < suc n → Is (a + k) (get_or (x ∷ xs) k d)
      stands rest zero d below = let here : a ≡ a + 0 = omega arith in subst (λ event. Is event x) here each.0
      stands rest (suc k) d below = let next : a + 1 + k ≡ a + suc k = omega arith in subst (λ event. Is event (get_or xs k d)) next (rest k d (omega (arith, below)))

  gathered : (n : ℕ) (xs : List X) → AllZip (AnswersEvent {E = E} Is) (range_with_len 0 n) (map Ok xs)
      → (length xs ≡ n) × ((event : ℕ) (x : X) → slice_get xs event ≡ Some x → Is event x)
  gathered n xs each =
      let found = gathered_from 0 n xs each in (
        found.0,
        λ event x at.
            let below = slice_get_within xs event x at in
            let all = found.0 in
            let same : 0 + event ≡ event = omega arith in
            let here = subst (λ e. Is e (get_or xs event x)) same (found.1 event x (omega (arith, below, all))) in
            subst (Is event) (get_or_from_slice_get xs event x x at) here,
      )

-- a place of a list has an item
item_there : {X : Type 0} (xs : List X) (k : ℕ) → k < length xs → (x : X) × (slice_get xs k ≡ Some x)
item_there [] k within = absurd (omega (arith, within))
item_there (x ∷ xs) zero within = (x, refl)
item_there (x ∷ xs) (suc k) within = item_there xs k (omega (arith, within))

-- the call for an event gives a claim of it, and tells that it has entered
abbrev pub AnswersEntered : {E : Type 0} → (ℕ → Claim → Type 0) → (ℕ → Type 0) → ℕ → Result Claim E → Type 0
AnswersEntered Is Entered event answer = IfOk answer (λ claim. Is event claim × Entered event)

-- so of the numbers that were gone through, where they are those of the events, and of the list that was kept
pub answers_kept : {X E : Type 0} (P : ℕ → Result X E → Type 0) (numbers events : List ℕ) (answers : List (Result X E)) (found kept : List X)
    → AllZip P numbers answers → numbers ≡ events → answers ≡ map Ok found → kept ≡ found → AllZip P events (map Ok kept)
answers_kept P numbers events answers found kept each all gave same =
    subst (λ list. AllZip P events (map Ok list)) (sym same) (subst (AllZip P events) gave (subst (λ list. AllZip P list answers) all each))

module _ (E : Type 0) (Is : ℕ → Claim → Type 0) (Entered : ℕ → Type 0) (n : ℕ) (claims : List Claim) where
  pub claims_gathered : AllZip (AnswersEntered {E = E} Is Entered) (range_with_len 0 n) (map Ok claims) → AreClaims n Is claims
  claims_gathered each =
      let found = gathered E (λ event claim. Is event claim × Entered event) n claims each in
      record { all = found.0; each = λ event claim at. (found.1 event claim at).0 }

  pub all_entered : AllZip (AnswersEntered {E = E} Is Entered) (range_with_len 0 n) (map Ok claims) → (event : ℕ) → event < n → Entered event
  all_entered each event below =
      let found = gathered E (λ event claim. Is event claim × Entered event) n claims each in
      let all = found.0 in
      let claim = item_there claims event (omega (arith, below, all)) in
      (found.1 event claim.0 claim.1).1

pub lines_gathered : (E : Type 0) (Is : ℕ → Option PlacedLine → Type 0) (n : ℕ) (lines : List (Option PlacedLine)) → AllZip (AnswersEvent {E = E} Is) (range_with_len 0 n) (map Ok lines) → AreLines n Is lines
lines_gathered E Is n lines each = let found = gathered E Is n lines each in record { all = found.0; each = found.1 }

-- there is one list of claims, where each event has one claim
pub one_list : (Is : ℕ → Claim → Type 0) (n : ℕ) → ((event : ℕ) (a b : Claim) → event < n → Is event a → Is event b → a ≡ b)
    → (a b : List Claim) → AreClaims n Is a → AreClaims n Is b → a ≡ b
one_list Is n one a b of_a of_b =
    same_lists a b (of_a.all ∙ sym of_b.all) (λ k d below.
    let all_a = of_a.all in
    let all_b = of_b.all in
    let in_b : k < length b = omega (arith, below, all_a, all_b) in
    let in_n : k < n = omega (arith, below, all_a) in
    one k (get_or a k d) (get_or b k d) in_n (of_a.each k (get_or a k d) (slice_get-get_or a k d below)) (of_b.each k (get_or b k d) (slice_get-get_or b k d in_b)))
