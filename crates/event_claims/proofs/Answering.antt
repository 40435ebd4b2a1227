-- What an answer asks, and its verdict.
use Rattle.std.proofs.Common.{◌≡◌, ℕ, List, Some, None, inl, inr, refl, sym, ap, ◌∙◌, arith, ◌<◌, All, length}
use Rattle.std.proofs.lemmas.Option.{slice_get_within}
use Rattle.base_types.specs.Choices.{IsChoice, MeetsAll}
use Rattle.base_types.specs.Reasons.{code_number}
use Rattle.base_types.specs.declared.verdict.claim.Bound.{Bound}
use Rattle.base_types.specs.declared.verdict.claim.Reason.{Reason}
use Rattle.history_model.proofs.Members.{all_from, not_in_none}
use Rattle.history_model.proofs.OpenBounds.{have_places, open_is}
use Rattle.history_model.specs.Codes.{NeverHolds}
use Rattle.history_model.specs.Events.{Event}
use Rattle.history_model.specs.Exact.{SometimesHolds, AreExactBounds}
use Rattle.history_model.specs.Histories.{History, ranges}
use Rattle.history_model.specs.Readable.{IsReadable}
use Rattle.history_model.specs.Right.{answer_code}
use Rattle.history_model.specs.Words.{Word, Makes, Removes, At, Strays, Nothing, word}
use Rattle.local_bounds.specs.Asked.{AreDeciding, IsAskingOf, bounds_of}
use Rattle.local_bounds.specs.declared.asking.BoundDemand.{BoundDemand}
use Rattle.local_bounds.specs.declared.asking.BoundDemand.TheVariants.{Free, Under, Never}
use Rattle.event_claims.proofs.Faulting.{some_choice}
use Rattle.event_claims.specs.Standing.{HasAnswerCode}
use Rattle.event_claims.specs.Verdicts.{IsVerdict}

module _ (h : History) (r : IsReadable h) (number : ℕ) (event : Event) where
  some_place : (choice : List ℕ) × IsChoice (ranges h) choice
  some_place = some_choice h r

  pub free_holds : IsAskingOf h number event Free → SometimesHolds h number event
  free_holds a = (some_place.0, some_place.1, a some_place.0 some_place.1)

  pub bounds_hold : (bounds : List Bound) → IsAskingOf h number event (Under bounds) → SometimesHolds h number event
  bounds_hold bounds a = go (open_is (ranges h) bounds (have_places h r) a.0.rising (λ b c. (a.0.deciding b c).has_room))
    where
      go : (choice : List ℕ) × IsChoice (ranges h) choice × MeetsAll choice bounds → SometimesHolds h number event
      go (choice, chosen, met) = (choice, chosen, (a.1 choice chosen).1 met)

  pub bounds_exact : (asking : BoundDemand) → IsAskingOf h number event asking → AreExactBounds h number event (bounds_of asking)
  bounds_exact Free a = inl (free_holds a, λ choice chosen. ((λ s k d l. absurd (omega arith)), λ m. a choice chosen))
  bounds_exact (Under bounds) a = inl (bounds_hold bounds a, a.1)
  bounds_exact Never a = inr (a, refl)

  pub bounds_decide : (asking : BoundDemand) → IsAskingOf h number event asking → AreDeciding h (bounds_of asking)
  bounds_decide Free a = record { rising = λ i j d l m. absurd (omega arith); deciding = λ b c. absurd (not_in_none c) }
  bounds_decide (Under bounds) a = a.0
  bounds_decide Never a = record { rising = λ i j d l m. absurd (omega arith); deciding = λ b c. absurd (not_in_none c) }

  -- what doesn't stand at a place asks nothing
  pub unplaced_free : (word h number event ≡ At → ⊥) → IsAskingOf h number event Free
  unplaced_free n = λ choice chosen w. absurd (n w)

  never_at : NeverHolds h number event → (w : Word) → word h number event ≡ w → word h number event ≡ At
  never_at n (Makes m) e = absurd (n some_place.0 some_place.1 (λ at. absurd (cc (e, at))))
  never_at n (Removes removal) e = absurd (n some_place.0 some_place.1 (λ at. absurd (cc (e, at))))
  never_at n At e = e
  never_at n Strays e = absurd (n some_place.0 some_place.1 (λ at. absurd (cc (e, at))))
  never_at n Nothing e = absurd (n some_place.0 some_place.1 (λ at. absurd (cc (e, at))))

  pub answer_right : SometimesHolds h number event → IsVerdict (SometimesHolds h number event) (HasAnswerCode h number event) None
  answer_right s = (s, λ code w. w.2 s.0 s.1 s.2)

  pub answer_wrong : (code : Reason) → code ≡ answer_code event.answer → NeverHolds h number event → IsVerdict (SometimesHolds h number event) (HasAnswerCode h number event) (Some code)
  answer_wrong code e n = ((e, never_at n (word h number event) refl, n), λ other w. omega (arith, ap code_number (e ∙ sym w.0)))

-- bounds that decide are on ranges of the history
pub bounds_within : (h : History) (bounds : List Bound) → AreDeciding h bounds → All (λ bound. bound.range < length (ranges h)) bounds
bounds_within h bounds d = all_from (λ bound. bound.range < length (ranges h)) bounds
    (λ bound c. slice_get_within (ranges h) bound.range (d.deciding bound c).has_room.range (d.deciding bound c).has_room.known)
