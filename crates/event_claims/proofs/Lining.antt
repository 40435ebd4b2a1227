-- The line of an event in a placement.
use Rattle.std.proofs.Common.{◌≡◌, ℕ, ◌↔◌, Bool, true, false, List, Option, Some, None, slice_get, slice_index, refl, sym, ap, ◌∙◌, subst, true≢false}
use Rattle.std.specs.Prelude.{IsTrue, is_some, not}
use Rattle.base_types.specs.Choices.{IsChoice}
use Rattle.base_types.specs.PlaceOrder.{AreLeastPlaces}
use Rattle.base_types.specs.declared.verdict.claim.Reason.{Reason}
use Rattle.base_types.specs.declared.verdict.placed.PlacedAnswer.{PlacedAnswer}
use Rattle.base_types.specs.declared.verdict.placed.PlacedAnswer.TheVariants as placed
use Rattle.base_types.specs.declared.verdict.placed.PlacedDecision.{PlacedDecision}
use Rattle.base_types.specs.declared.verdict.placed.PlacedLine.{PlacedLine}
use Rattle.base_types.specs.declared.verdict.placed.Places.{Places}
use Rattle.base_types.specs.declared.kubernetes.request.Decision.{Decision}
use Rattle.history_model.proofs.CutLemmas.{cut_at}
use Rattle.history_model.specs.Decisions.{IsDecidedAt}
use Rattle.history_model.specs.Events.{Event}
use Rattle.history_model.specs.Histories.{History, Removal, ranges}
use Rattle.history_model.specs.Groups.{Making}
use Rattle.history_model.specs.Local.{AnswerHolds, IsFixedBy}
use Rattle.history_model.specs.Placed.{IsLeastPlace, IsPlacedAnswer, IsPlacedDecision}
use Rattle.history_model.specs.Words.{Word, Makes, Removes, At, Strays, Nothing, word}
use Rattle.event_claims.specs.Lines.{IsAnswered, IsLineWith, IsLined}
use Rattle.event_claims.specs.Standing.{IsOfPolicy}
use Rattle.event_claims.specs.Verdicts.{IsVerdict}

-- where there is no verdict against it, it is right
pub right_tells : (Right : Type 0) (Has : Reason → Type 0) → ((code : Reason) → Has code → Right → ⊥) → (o : Option Reason) (b : Bool) → IsVerdict Right Has o → is_some o ≡ not b → IsTrue b ↔ Right
right_tells Right Has wrong None true v e = (λ t. v.0, λ r. refl)
right_tells Right Has wrong None false v e = absurd (true≢false (sym e))
right_tells Right Has wrong (Some code) true v e = absurd (true≢false e)
right_tells Right Has wrong (Some code) false v e = (λ t. absurd (true≢false (sym t)), λ r. absurd (wrong code v.0 r))

module _ (h : History) (choice : List ℕ) (number : ℕ) (event : Event) where
  -- what doesn't stand at a place holds of itself
  holds_unplaced : (w : Word) → word h number event ≡ w → (w ≡ At → ⊥) → AnswerHolds h choice number event
  holds_unplaced w e n = λ at. absurd (n (sym e ∙ at))

  placed_as : (w : Word) → word h number event ≡ w → (answer : PlacedAnswer) → IsPlacedAnswer h choice number event w answer → IsPlacedAnswer h choice number event (word h number event) answer
  placed_as w e answer p = subst (λ said. IsPlacedAnswer h choice number event said answer) (sym e) p

  pub made_placed : (m : Making) (revision : ℕ) → word h number event ≡ Makes m → m.item.revision ≡ revision → IsAnswered h choice number event (Some (placed.Made revision))
  made_placed m revision e r = (holds_unplaced (Makes m) e (λ q. cc q), placed_as (Makes m) e (placed.Made revision) (ap placed.Made (sym r)))

  pub removed_placed : (removal : Removal) (position place : ℕ) → word h number event ≡ Removes removal → slice_get h.removals position ≡ Some removal → IsChoice (ranges h) choice
      → place ≡ slice_index choice position → IsAnswered h choice number event (Some (placed.Removed place))
  removed_placed removal position place e at chosen p = (
    holds_unplaced (Removes removal) e (λ q. cc q),
    placed_as (Removes removal) e (placed.Removed place)
        (slice_index choice position, cut_at h.removals choice position removal chosen at, ap placed.Removed p),
  )

  pub strays_placed : word h number event ≡ Strays → IsAnswered h choice number event (Some placed.Nowhere)
  strays_placed e = (holds_unplaced Strays e (λ q. cc q), placed_as Strays e placed.Nowhere refl)

  pub nothing_placed : word h number event ≡ Nothing → IsAnswered h choice number event (Some placed.Nowhere)
  nothing_placed e = (holds_unplaced Nothing e (λ q. cc q), placed_as Nothing e placed.Nowhere refl)

  pub at_placed : (place : ℕ) → word h number event ≡ At → IsLeastPlace h choice number event place → IsAnswered h choice number event (Some (placed.At place))
  at_placed place e l = ((λ w. (place, l.inside, l.right)), placed_as At e (placed.At place) (place, l, refl))

  -- the parts of a line
  pub not_fixed : (b : Bool) → (IsTrue b ↔ (IsOfPolicy event × IsFixedBy h event (word h number event))) → b ≡ false → IsLined h choice number event None
  not_fixed b tells f = λ right. true≢false (sym (tells.1 ((right.fixed.level, right.fixed.stage), right.fixed.by_word)) ∙ f)

  pub not_answered : IsAnswered h choice number event None → IsLined h choice number event None
  not_answered n = λ right. n right.answer

  pub line_is : (line : ℕ) (answer : PlacedAnswer) (found : Option PlacedLine) → line ≡ event.line → IsOfPolicy event × IsFixedBy h event (word h number event)
      → IsAnswered h choice number event (Some answer) → IsLineWith h number event line answer found → IsLined h choice number event found
  line_is line answer None e fixed a n = λ right. n right.fixed.decision
  line_is line answer (Some found) e fixed a w = (
    record { fixed = record { level = fixed.0.0; stage = fixed.0.1; by_word = fixed.1; decision = w.2 }; answer = a.0 },
    record {
      of_event = w.0 ∙ e;
      answer = subst (λ p. IsPlacedAnswer h choice number event (word h number event) p) (sym w.1) a.1;
      decision = w.3;
    },
  )

module _ (h : History) (number : ℕ) (event : Event) (line : ℕ) (answer : PlacedAnswer) where
  pub unasked_line : event.decision ≡ None → IsLineWith h number event line answer (Some (record { line = line; answer = answer; decision = None }))
  unasked_line e = (refl, refl, (λ decided q. absurd (cc (e, q))), subst (λ d. IsPlacedDecision h number event d None) (sym e) refl)

  pub impossible_line : (decided : Decision) → event.decision ≡ Some decided → ((places : Places) → IsDecidedAt h number event places → ⊥) → IsLineWith h number event line answer None
  impossible_line decided e n = λ could. let w = could decided e in n w.0 w.1

  pub given_line : (given : PlacedDecision) → event.decision ≡ Some given.decision → AreLeastPlaces (IsDecidedAt h number event) given.places
      → IsLineWith h number event line answer (Some (record { line = line; answer = answer; decision = Some given }))
  given_line given e l = (refl, refl, (λ decided q. (given.places, l.decided)), subst (λ d. IsPlacedDecision h number event d (Some given)) (sym e) (given.places, l, refl))
