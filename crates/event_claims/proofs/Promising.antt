-- An event is right under a choice exactly where its claim doesn't fail and the choice meets its bounds.
use Rattle.std.proofs.Common.{◌≡◌, ℕ, ◌↔◌, List, Option, Some, None, inl, inr, refl, subst}
use Rattle.base_types.specs.Choices.{IsChoice, MeetsAll}
use Rattle.base_types.specs.declared.verdict.claim.Claim.{Claim}
use Rattle.base_types.specs.declared.verdict.claim.Reason.{Reason}
use Rattle.event_claims.proofs.Sameness.{right_no_code}
use Rattle.history_model.specs.Events.{Event}
use Rattle.history_model.specs.Exact.{SometimesHolds, IsFailure, AreExactBounds, IsExactClaim}
use Rattle.history_model.specs.Histories.{History, ranges}
use Rattle.history_model.specs.Local.{AnswerHolds, IsFixedRight, IsRightUnder}

module _ (h : History) (number : ℕ) (event : Event) (claim : Claim) (choice : List ℕ) (exact : IsExactClaim h number event claim) (chosen : IsChoice (ranges h) choice) where
  no_failure : IsRightUnder h choice number event → (fails : Option Reason) → IsFailure h number event fails → fails ≡ None
  no_failure right None f = refl
  no_failure right (Some code) f = absurd (right_no_code h number event code right.fixed (choice, chosen, right.answer) f.0)

  met : IsRightUnder h choice number event → AreExactBounds h number event claim.bounds → MeetsAll choice claim.bounds
  met right (inl e) = (e.1 choice chosen).0 right.answer
  met right (inr n) = absurd (n.0 choice chosen right.answer)

  holds : SometimesHolds h number event → MeetsAll choice claim.bounds → AreExactBounds h number event claim.bounds → AnswerHolds h choice number event
  holds s m (inl e) = (e.1 choice chosen).1 m
  holds s m (inr n) = absurd (n.0 s.0 s.1 s.2)

  is_right : MeetsAll choice claim.bounds → IsFixedRight h number event × SometimesHolds h number event → IsRightUnder h choice number event
  is_right m f = record { fixed = f.0; answer = holds f.1 m exact.exact }

  pub right_is : IsRightUnder h choice number event ↔ ((claim.fails ≡ None) × MeetsAll choice claim.bounds)
  right_is = (
    λ right. (no_failure right claim.fails exact.failure, met right exact.exact),
    λ w. is_right w.1 (subst (λ fails. IsFailure h number event fails) w.0 exact.failure),
  )
