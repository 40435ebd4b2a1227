-- A printed placement is a run.
use Rattle.std.proofs.Common.{◌≡◌, ℕ, List, [], ◌∷◌, length, map, slice_get, Some, Contains, refl, sym, ap, ap₂, ◌∙◌, subst, arith}
use Rattle.std.proofs.lemmas.Option.{slice_get_within}
use Rattle.base_types.specs.Choices.{IsChoice}
use Rattle.base_types.specs.PlaceOrder.{AreLeastPlaces}
use Rattle.base_types.specs.declared.verdict.placed.PlacedAnswer.TheVariants as placed
use Rattle.base_types.specs.declared.verdict.placed.PlacedLine.{PlacedLine}
use Rattle.base_types.specs.declared.verdict.placed.Places.{Places}
use Rattle.base_types.specs.declared.kubernetes.request.Decision.{Decision}
use Rattle.history_model.proofs.CutLemmas.{AreChosen, cut_of, cut_removal, cuts_apart}
use Rattle.history_model.proofs.Global.{IsRightAs, right_is_run, run_is_right}
use Rattle.history_model.proofs.Members.{here, there}
use Rattle.history_model.proofs.OutcomeLaw.{get_within}
use Rattle.history_model.proofs.WordLemmas.{removal_word_is}
use Rattle.history_model.specs.Decisions.{IsDecidedAt}
use Rattle.history_model.specs.Events.{Event}
use Rattle.history_model.specs.Histories.{History, Removal, IsEvent, ranges}
use Rattle.history_model.specs.Incarnations.{IsRemoval}
use Rattle.history_model.specs.Local.{IsRightUnder, AreRightUpTo}
use Rattle.history_model.specs.Outcomes.{IsLeastOfRuns}
use Rattle.history_model.specs.Placed.{IsLeastPlace, IsPlacedAnswer, IsPlacedDecision, IsPlacedLine, ArePlacedLines, answer_place, decision_places, line_place, line_places, placement_of}
use Rattle.history_model.specs.Readable.{IsReadable}
use Rattle.history_model.specs.Right.{IsRight}
use Rattle.history_model.specs.Runs.{IsRun}
use Rattle.history_model.specs.States.{Cut, cuts, state}
use Rattle.history_model.specs.Windows.{InWindow}
use Rattle.history_model.specs.Words.{At, word}

-- the places of a list's cuts are its choice
places_are : (removals : List Removal) (choice : List ℕ) (f : Removal → ℕ) → AreChosen removals choice
    → ((cut : Cut) → Contains (cuts removals choice) cut → f cut.removal ≡ cut.place) → map f removals ≡ choice
places_are [] [] f a e = refl
places_are [] (x ∷ xs) f a e = absurd a
places_are (r ∷ rs) [] f a e = absurd a
places_are (r ∷ rs) (x ∷ xs) f a e = ap₂ (λ p q. p ∷ q) (e (cut_of r x) (here (cut_of r x) (cuts rs xs)))
    (places_are rs xs f a.1 (λ cut c. e cut (there (cut_of r x) cut (cuts rs xs) c)))

module _ (h : History) (choice : List ℕ) (lines : List PlacedLine) (r : IsReadable h) (chosen : IsChoice (ranges h) choice) (placed' : ArePlacedLines h choice lines) where
  line_of : (number : ℕ) (event : Event) → IsEvent h number event → (line : PlacedLine) × (slice_get lines number ≡ Some line) × IsPlacedLine h choice number event line
  line_of number event known = go (get_within lines number (omega (arith, slice_get_within h.events number event known, placed'.all)))
    where
      go : (line : PlacedLine) × (slice_get lines number ≡ Some line) → (line : PlacedLine) × (slice_get lines number ≡ Some line) × IsPlacedLine h choice number event line
      go (line, e) = (line, e, placed'.each number event line known e)

  -- the removal's line has its place
  removal_place : (cut : Cut) → Contains (cuts h.removals choice) cut → line_place (slice_get lines cut.removal.range.event) ≡ cut.place
  removal_place cut c = go (r.removals.sound cut.removal listed)
    where
      listed : Contains h.removals cut.removal
      listed = cut_removal h.removals choice cut c

      go : IsRemoval h cut.removal → line_place (slice_get lines cut.removal.range.event) ≡ cut.place
      go i = at (line_of cut.removal.range.event i.behind.event i.behind.first.known)
        where
          at : (line : PlacedLine) × (slice_get lines cut.removal.range.event ≡ Some line) × IsPlacedLine h choice cut.removal.range.event i.behind.event line
              → line_place (slice_get lines cut.removal.range.event) ≡ cut.place
          at (line, e, p) = by (subst (λ w. IsPlacedAnswer h choice cut.removal.range.event i.behind.event w line.answer) (removal_word_is h cut.removal i.behind.event r listed i.behind.first.known) p.answer)
            where
              by : (place : ℕ) × Contains (cuts h.removals choice) (cut_of cut.removal place) × (line.answer ≡ placed.Removed place)
                  → line_place (slice_get lines cut.removal.range.event) ≡ cut.place
              by (place, d, a) = ap line_place e ∙ ap answer_place a
                  ∙ ap (λ (z : Cut). z.place) (cuts_apart h.removals choice (cut_of cut.removal place) cut r.removals.rising d c refl)

  choice_is : (placement_of h lines).choice ≡ choice
  choice_is = places_are h.removals choice (λ removal. line_place (slice_get lines removal.range.event)) chosen removal_place

  right_as : (number : ℕ) (event : Event) → IsEvent h number event → IsRightUnder h choice number event → IsRightAs h (placement_of h lines) number event
  right_as number event known under = go (line_of number event known)
    where
      go : (line : PlacedLine) × (slice_get lines number ≡ Some line) × IsPlacedLine h choice number event line → IsRightAs h (placement_of h lines) number event
      go (line, e, p) = record { fixed = under.fixed; answer = answer; decision = decision }
        where
          answer : word h number event ≡ At
              → InWindow h event (line_place (slice_get lines number)) × IsRight h number event (line_place (slice_get lines number)) (state h (placement_of h lines).choice (line_place (slice_get lines number)))
          answer w = by (subst (λ z. IsPlacedAnswer h choice number event z line.answer) w p.answer)
            where
              by : (place : ℕ) × IsLeastPlace h choice number event place × (line.answer ≡ placed.At place)
                  → InWindow h event (line_place (slice_get lines number)) × IsRight h number event (line_place (slice_get lines number)) (state h (placement_of h lines).choice (line_place (slice_get lines number)))
              by (place, l, a) = (
                subst (λ x. InWindow h event x) (sym is) l.inside,
                subst (λ x. IsRight h number event x (state h (placement_of h lines).choice x)) (sym is) (subst (λ z. IsRight h number event place (state h z place)) (sym choice_is) l.right),
              )
                where
                  is : line_place (slice_get lines number) ≡ place
                  is = ap line_place e ∙ ap answer_place a

          decision : (d : Decision) → event.decision ≡ Some d → IsDecidedAt h number event (line_places (slice_get lines number))
          decision d q = by (subst (λ z. IsPlacedDecision h number event z line.decision) q p.decision)
            where
              by : (places : Places) × AreLeastPlaces (IsDecidedAt h number event) places × (line.decision ≡ Some (record { decision = d; places = places })) → IsDecidedAt h number event (line_places (slice_get lines number))
              by (places, l, a) = subst (λ z. IsDecidedAt h number event z) (sym (ap line_places e ∙ ap decision_places a)) l.decided

  run_of_lines : AreRightUpTo h (length h.order) choice → IsRun h (placement_of h lines)
  run_of_lines right = right_is_run h (length h.order) (placement_of h lines) r (subst (λ z. IsChoice (ranges h) z) (sym choice_is) chosen)
      (λ number event j known. right_as number event known (right number event j known))

pub printed_is : (h : History) (choice : List ℕ) (lines : List PlacedLine) → IsReadable h → IsLeastOfRuns h choice → ArePlacedLines h choice lines
    → IsRun h (placement_of h lines) × ((placement_of h lines).choice ≡ choice)
printed_is h choice lines r l p = (run_of_lines h choice lines r chosen p right, choice_is h choice lines r chosen p)
  where
    chosen : IsChoice (ranges h) choice
    chosen = subst (λ z. IsChoice (ranges h) z) l.chosen l.run.placed.chosen

    right : AreRightUpTo h (length h.order) choice
    right = subst (λ z. AreRightUpTo h (length h.order) z) l.chosen (run_is_right h (length h.order) l.p r l.run)
