-- Why an event fails, by the verdicts on its parts.
use Rattle.std.proofs.Common.{◌≡◌, ℕ, ◌⊎◌, Option, Some, None, inl, inr, refl, sym, ◌∙◌, subst, true≢false}
use Rattle.base_types.specs.declared.verdict.claim.Reason.{Reason}
use Rattle.history_model.specs.Codes as codes
use Rattle.history_model.specs.Codes.{HasCode}
use Rattle.history_model.specs.Events.{Event, Answer, Made, Removed, Opaque, Saw, SawNone, SawSome, SawOther, Listed, Free, Aside}
use Rattle.history_model.specs.Exact.{SometimesHolds, IsFailure}
use Rattle.history_model.specs.Histories.{History}
use Rattle.history_model.specs.Local.{IsFixedBy}
use Rattle.history_model.specs.Words.{Word, Makes, Removes, At, Strays, Nothing, word}
use Rattle.event_claims.proofs.Judging.{both_are}
use Rattle.event_claims.specs.Standing.{IsOfPolicy, HasPolicyCode, HasWordCode, HasFindingCode, HasFoundCode, HasAnswerCode, IsDecidable, HasDecisionCode}
use Rattle.event_claims.specs.Verdicts.{lesser, IsVerdict}

module _ (h : History) (number : ℕ) (event : Event) where
  abbrev pub HasPart : Reason → Type 0
  HasPart code = ((HasPolicyCode event code ⊎ HasWordCode h event (word h number event) code) ⊎ HasFoundCode h number event code)
      ⊎ (HasAnswerCode h number event code ⊎ HasDecisionCode h number event code)

  abbrev pub IsWholeRight : Type 0
  IsWholeRight = ((IsOfPolicy event × IsFixedBy h event (word h number event)) × Unit {0}) × (SometimesHolds h number event × IsDecidable h number event)

  of_word : (code : Reason) (w : Word) → word h number event ≡ w → HasWordCode h event w code → HasCode h number event code
  of_word code (Makes m) e x = codes.making m x.0 e x.1 x.2
  of_word code (Removes removal) e x = codes.removal removal x.0 e x.1
  of_word code At e x = absurd x
  of_word code Strays e x = codes.stray x e
  of_word code Nothing e x = absurd x

  of_finding : (code : Reason) → word h number event ≡ At → (answer : Answer) → event.answer ≡ answer → HasFindingCode h number event answer code → HasCode h number event code
  of_finding code w (Made item created) e x = codes.found item created w e x.0 x.1
  of_finding code w (Removed key uid) e x = absurd x
  of_finding code w (Opaque cover) e x = absurd x
  of_finding code w (Saw item) e x = absurd x
  of_finding code w (SawNone key) e x = absurd x
  of_finding code w (SawSome key) e x = absurd x
  of_finding code w (SawOther key) e x = absurd x
  of_finding code w (Listed listing) e x = absurd x
  of_finding code w Free e x = absurd x
  of_finding code w Aside e x = absurd x

  has : (code : Reason) → HasPart code → HasCode h number event code
  has code (inl (inl (inl (inl x)))) = codes.level x.0 x.1
  has code (inl (inl (inl (inr x)))) = codes.stage x.0 x.1
  has code (inl (inl (inr x))) = of_word code (word h number event) refl x
  has code (inl (inr x)) = of_finding code x.0 event.answer refl x.1
  has code (inr (inl x)) = codes.answer x.0 x.1 x.2
  has code (inr (inr x)) = codes.decision x.0 x.1 x.2 x.3

  part : (code : Reason) → HasCode h number event code → HasPart code
  part code (codes.level e x) = inl (inl (inl (inl (e, x))))
  part code (codes.stage e x) = inl (inl (inl (inr (e, x))))
  part code (codes.stray e w) = inl (inl (inr (subst (λ said. HasWordCode h event said code) (sym w) e)))
  part code (codes.making m before w e f) = inl (inl (inr (subst (λ said. HasWordCode h event said code) (sym w) (before, e, f))))
  part code (codes.removal removed e w n) = inl (inl (inr (subst (λ said. HasWordCode h event said code) (sym w) (e, n))))
  part code (codes.found item created w a n f) = inl (inr (w, subst (λ answer. HasFindingCode h number event answer code) (sym a) (n, f)))
  part code (codes.answer e w n) = inr (inl (e, w, n))
  part code (codes.decision decided e d n) = inr (inr (decided, e, d, n))

  pub failure_is : (fails : Option Reason) → IsVerdict IsWholeRight HasPart fails → IsFailure h number event fails
  failure_is None v = (record { level = v.0.0.0.0.0; stage = v.0.0.0.0.1; by_word = v.0.0.0.1; decision = v.0.1.1 }, v.0.1.0)
  failure_is (Some code) v = (has code v.0, λ other x. v.1 other (part other x))

  pub all_judged : (fixed finding answer decision standing answered fails : Option Reason) → standing ≡ lesser fixed finding → answered ≡ lesser answer decision → fails ≡ lesser standing answered
      → IsVerdict (IsOfPolicy event × IsFixedBy h event (word h number event)) (λ code. HasPolicyCode event code ⊎ HasWordCode h event (word h number event) code) fixed
      → IsVerdict (Unit {0}) (HasFoundCode h number event) finding
      → IsVerdict (SometimesHolds h number event) (HasAnswerCode h number event) answer
      → IsVerdict (IsDecidable h number event) (HasDecisionCode h number event) decision
      → IsFailure h number event fails
  all_judged fixed finding answer decision standing answered fails a b c v w x y = failure_is fails
      (both_are ((IsOfPolicy event × IsFixedBy h event (word h number event)) × Unit {0}) (SometimesHolds h number event × IsDecidable h number event)
      (λ code. (HasPolicyCode event code ⊎ HasWordCode h event (word h number event) code) ⊎ HasFoundCode h number event code)
      (λ code. HasAnswerCode h number event code ⊎ HasDecisionCode h number event code)
      standing answered fails c
      (both_are (IsOfPolicy event × IsFixedBy h event (word h number event)) (Unit {0})
      (λ code. HasPolicyCode event code ⊎ HasWordCode h event (word h number event) code) (HasFoundCode h number event) fixed finding standing a v w)
      (both_are (SometimesHolds h number event) (IsDecidable h number event) (HasAnswerCode h number event) (HasDecisionCode h number event) answer decision answered b x y))

-- a code of the policy or of the word excludes that these are right
module _ (h : History) (number : ℕ) (event : Event) where
  wrong_word : (code : Reason) (w : Word) → HasWordCode h event w code → IsFixedBy h event w → ⊥
  wrong_word code (Makes m) x f = f x.0 x.1 code x.2
  wrong_word code (Removes removal) x f = x.1 f
  wrong_word code At x f = x
  wrong_word code Strays x f = f
  wrong_word code Nothing x f = x

  pub wrong_fixed : (code : Reason) → HasPolicyCode event code ⊎ HasWordCode h event (word h number event) code → IsOfPolicy event × IsFixedBy h event (word h number event) → ⊥
  wrong_fixed code (inl (inl x)) f = true≢false (sym x.1 ∙ f.0.0)
  wrong_fixed code (inl (inr x)) f = true≢false (sym x.1 ∙ f.0.1)
  wrong_fixed code (inr x) f = wrong_word code (word h number event) x f.1
