-- The claims of a context say exactly what its history asks, and what settles them explains each event.
use Rattle.std.proofs.Common.{◌≡◌, ℕ, ◌<◌, ◌⊎◌, ◌↔◌, inl, inr, List, [], ◌∷◌, length, Some, None, slice_get, map, All, refl, sym, ap, ◌∙◌, subst, arith}
use Rattle.std.proofs.lemmas.List.{length-map}
use Rattle.std.proofs.lemmas.Option.{slice_get_within}
use Rattle.base_types.specs.Choices.{HavePlaces, IsChoice, MeetsAll}
use Rattle.base_types.specs.Settlement.{BreaksFirst, IsLeastChoice}
use Rattle.base_types.specs.declared.verdict.claim.Bound.{Bound}
use Rattle.base_types.specs.declared.verdict.claim.Claim.{Claim}
use Rattle.base_types.specs.declared.verdict.claim.Range.{Range}
use Rattle.base_types.specs.declared.verdict.claim.Reason.{Reason}
use Rattle.base_types.specs.declared.verdict.placed.Outcome.{Outcome}
use Rattle.base_types.specs.declared.verdict.placed.Outcome.TheVariants as printed
use Rattle.base_types.specs.declared.verdict.placed.PlacedLine.{PlacedLine}
use Rattle.context_claims.proofs.OneClaim.{claim_within}
use Rattle.context_claims.specs.Claims.{IsClaimOf}
use Rattle.history_model.proofs.Members.{all_at, all_from, at_in, in_at}
use Rattle.history_model.proofs.OpenBounds.{have_places}
use Rattle.history_model.proofs.OutcomeLaw.{breaks_is, fits_is, get_within}
use Rattle.history_model.specs.Codes.{NeverHolds}
use Rattle.history_model.specs.Events.{Event}
use Rattle.history_model.specs.Exact.{AreExact, IsExactClaim, IsFailure, SometimesHolds}
use Rattle.history_model.specs.Histories.{IsEvent, ranges}
use Rattle.history_model.specs.Local.{AnswerHolds, IsFixedRight, IsRightUnder}
use Rattle.history_model.specs.Outcomes.{Explained, Unexplained, shown_high, shown_low}
use Rattle.history_model.specs.Placed.{ArePlacedLines}
use Rattle.history_model.specs.Readable.{IsReadable}
use Rattle.judge_pool.specs.Claims.{AreClaims}
use Rattle.object_past.specs.Modelled.{recorded}
use Rattle.object_past.specs.declared.removal.Removal.{Removal}
use Rattle.place_choice.specs.Settled.{IsSettled}
use Rattle.place_choice.specs.declared.settled.Settled.{Settled}
use Rattle.place_choice.specs.declared.settled.Settled.TheVariants.{Fits, Breaks}
use Rattle.log_context.specs.Histories.{history_of}
use Rattle.log_context.specs.Known.{Known}
use Rattle.write_groups.specs.Modelled.{event_of}
use Rattle.log_verdict.specs.Findings.{ExplainsEach, IsFindingOf}
use Rattle.log_verdict.specs.Judging.{IsOutcomeOf}

ranges_are : (removals : List Removal) → map (λ removal. removal.range) (map recorded removals) ≡ map (λ removal. removal.range) removals
ranges_are [] = refl
ranges_are (removal ∷ removals) = ap (λ l. removal.range ∷ l) (ranges_are removals)

pub model_ranges : (known : Known) (given : List Range) → given ≡ map (λ removal. removal.range) known.removals → given ≡ ranges (history_of known)
model_ranges known given is = is ∙ sym (ranges_are known.removals)

pub given_places : (known : Known) (given : List Range) → IsReadable (history_of known) → given ≡ map (λ removal. removal.range) known.removals → HavePlaces given
given_places known given r is = subst HavePlaces (sym (model_ranges known given is)) (have_places (history_of known) r)

-- an event that breaks first is one of the log
pub breaks_known : (known : Known) (given : List Range) (claims : List Claim) (number : ℕ) (reason : Reason) → IsReadable (history_of known) → BreaksFirst given claims known.order number reason
    → number < length known.log
breaks_known known given claims number reason r breaks =
    let l = r.order.known number (at_in known.order breaks.before number breaks.found) in omega (arith, l, length-map known.log event_of)

module _ (known : Known) (claims : List Claim) (are : AreClaims (length known.log) (IsClaimOf known) claims) where
  pub exact : AreExact (history_of known) claims
  exact = record {
    all = are.all ∙ sym (length-map known.log event_of);
    each = λ number event claim k at. (are.each number claim at).exact event k;
  }

  -- each bound names a removal
  pub named : (given : List Range) → given ≡ map (λ removal. removal.range) known.removals → All (λ claim. All (λ bound. bound.range < length given) claim.bounds) claims
  named given is = all_from (λ claim. All (λ bound. bound.range < length given) claim.bounds) claims (λ claim c. go claim (in_at claims claim c))
    where
      go : (claim : Claim) → (i : ℕ) × (slice_get claims i ≡ Some claim) → All (λ bound. bound.range < length given) claim.bounds
      go claim (i, at) = subst (λ l. All (λ (bound : Bound). bound.range < length l) claim.bounds) (sym (model_ranges known given is)) (claim_within known i claim (are.each i claim at))

  -- what settles the claims, of the history
  pub least_of : (given : List Range) (order : List ℕ) (taken : List Claim) (settled : Settled) (choice : List ℕ) → given ≡ map (λ removal. removal.range) known.removals → taken ≡ claims
      → settled ≡ Fits choice → IsSettled given order taken settled → IsLeastChoice (ranges (history_of known)) claims choice
  least_of given order taken settled choice of_ranges of_claims is holds =
      subst (λ r. IsLeastChoice r claims choice) (model_ranges known given of_ranges) (subst (λ c. IsLeastChoice given c choice) of_claims (subst (IsSettled given order taken) is holds))

  pub breaks_of : (given : List Range) (order : List ℕ) (taken : List Claim) (settled : Settled) (number : ℕ) (reason : Reason) → given ≡ map (λ removal. removal.range) known.removals
      → order ≡ known.order → taken ≡ claims → settled ≡ Breaks number reason → IsSettled given order taken settled → BreaksFirst (ranges (history_of known)) claims known.order number reason
  breaks_of given order taken settled number reason of_ranges of_order of_claims is holds =
      subst (λ r. BreaksFirst r claims known.order number reason) (model_ranges known given of_ranges)
      (subst (λ o. BreaksFirst given claims o number reason) of_order (subst (λ c. BreaksFirst given c order number reason) of_claims (subst (IsSettled given order taken) is holds)))

  -- the least choice makes each event right
  pub explains : (choice : List ℕ) → IsLeastChoice (ranges (history_of known)) claims choice → ExplainsEach known choice
  explains choice least = record { chosen = least.explains.chosen; right = right }
    where
      right : (number : ℕ) (event : Event) → IsEvent (history_of known) number event → IsRightUnder (history_of known) choice number event
      right number event k = go (get_within claims number (let l = slice_get_within (history_of known).events number event k in omega (arith, l, exact.all)))
        where
          go : (claim : Claim) × (slice_get claims number ≡ Some claim) → IsRightUnder (history_of known) choice number event
          go (claim, at) = record { fixed = failure.0; answer = answer is.exact }
            where
              is : IsExactClaim (history_of known) number event claim
              is = exact.each number event claim k at

              failure : IsFixedRight (history_of known) number event × SometimesHolds (history_of known) number event
              failure = subst (IsFailure (history_of known) number event) (all_at (λ claim. claim.fails ≡ None) claims claim least.explains.sound (at_in claims number claim at)) is.failure

              met : MeetsAll choice claim.bounds
              met = all_at (λ claim. MeetsAll choice claim.bounds) claims claim least.explains.met (at_in claims number claim at)

              answer : (SometimesHolds (history_of known) number event
                  × ((choice : List ℕ) → IsChoice (ranges (history_of known)) choice → AnswerHolds (history_of known) choice number event ↔ MeetsAll choice claim.bounds))
                  ⊎ (NeverHolds (history_of known) number event × (claim.bounds ≡ [])) → AnswerHolds (history_of known) choice number event
              answer (inl holds) = (holds.1 choice least.explains.chosen).1 met
              answer (inr never) = absurd (never.0 failure.1.0 failure.1.1 failure.1.2)

  -- the outcome where a choice explains all
  pub explained_is : (choice : List ℕ) (lines : List PlacedLine) → IsReadable (history_of known) → IsLeastChoice (ranges (history_of known)) claims choice
      → ArePlacedLines (history_of known) choice lines → IsOutcomeOf known (printed.Explained lines)
  explained_is choice lines r least placed = record {
    found = Explained lines;
    is = record { choice = choice; least = fits_is (history_of known) claims r exact choice least; placed = placed };
    printed = refl;
  }

  -- the outcome where none does
  pub unexplained_is : (number : ℕ) (reason : Reason) (outcome : Outcome) → IsReadable (history_of known) → BreaksFirst (ranges (history_of known)) claims known.order number reason
      → IsFindingOf known number reason outcome → IsOutcomeOf known outcome
  unexplained_is number reason outcome r breaks finding = record {
    found = Unexplained number reason (shown_low (history_of known) finding.event reason) (shown_high (history_of known) finding.event reason) finding.writes;
    is = record {
      event = finding.event;
      earliest = breaks_is (history_of known) claims r exact number finding.event reason finding.is breaks;
      from = refl;
      to = refl;
      written = finding.are;
    };
    printed = finding.printed;
  }
