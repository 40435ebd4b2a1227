-- The numbers of a placement that explains a log are such as a text may have.
use Rattle.std.proofs.Common.{◌≡◌, ℕ, ◌<◌, ◌≤◌, Bool, true, false, nat_le, List, length, get_or, Option, Some, None, slice_get, refl, sym, ap, ◌∙◌, subst, arith}
use Rattle.std.proofs.lemmas.Bool.{and_parts, leb-true}
use Rattle.std.proofs.lemmas.Option.{same_Some, slice_get-get_or, slice_get_within}
use Rattle.base_types.specs.Choices.{IsChoice}
use Rattle.base_types.specs.Placements.{RisesByLine}
use Rattle.base_types.specs.declared.verdict.placed.PlacedAnswer.{PlacedAnswer}
use Rattle.base_types.specs.declared.verdict.placed.PlacedDecision.{PlacedDecision}
use Rattle.base_types.specs.declared.verdict.placed.PlacedLine.{PlacedLine}
use Rattle.base_types.specs.declared.kubernetes.request.Decision.{Decision}
use Rattle.history_model.proofs.CutLemmas.{cut_chosen, cut_of, cut_removal}
use Rattle.history_model.proofs.Members.{all_from, in_at}
use Rattle.history_model.proofs.OutcomeLaw.{get_within}
use Rattle.history_model.proofs.WindowLemmas.{highest_last}
use Rattle.history_model.proofs.WordLemmas.{word_makes}
use Rattle.history_model.specs.Decisions.{IsCachePlace}
use Rattle.history_model.specs.Events.{Event, Item, Made, Reading, MostRecent, AnyVersion, NotOlderThan, Exactly, Checkpoint}
use Rattle.history_model.specs.Histories.{History, IsEvent, ranges}
use Rattle.history_model.specs.Placed.{ArePlacedLines, IsPlacedAnswer, IsPlacedDecision, IsPlacedLine}
use Rattle.history_model.specs.Readable.{IsReadable}
use Rattle.history_model.specs.Windows.{high_end_of, highest, is_reachable}
use Rattle.history_model.specs.Words.{Word, Makes, Removes, At, Strays, Nothing, word}
use Rattle.verdict_text.specs.Placed.{FitsAnswer, FitsDecision, FitsPlaced}
use Rattle.verdict_text.specs.Reading.{IsPlacement}
use Rattle.verdict_text.specs.Words.{IsNumber}

-- the numbers that the events of a log tell
pub record AreNumbers (h : History) : Type 0 where
  pub lines : (number : ℕ) (event : Event) → IsEvent h number event → IsNumber event.line
  pub made : (number : ℕ) (event : Event) (item : Item) (created : Bool) → IsEvent h number event → event.answer ≡ Made item created → IsNumber item.revision
  pub checkpoints : (number : ℕ) (event : Event) (revision : ℕ) → IsEvent h number event → event.reading ≡ Checkpoint revision → IsNumber revision

-- the upper end of a window
high_small : (h : History) (event : Event) (place : ℕ) (reading : Reading) → ((revision : ℕ) → reading ≡ Checkpoint revision → IsNumber revision) → place ≤ high_end_of h event reading → IsNumber place
high_small h event place MostRecent small below = let last = highest_last h.spans event.hi in omega (arith, below, last)
high_small h event place AnyVersion small below = let last = highest_last h.spans event.hi in omega (arith, below, last)
high_small h event place (NotOlderThan revision) small below = let last = highest_last h.spans event.hi in omega (arith, below, last)
high_small h event place (Exactly revision) small below = go (is_reachable h event revision) refl
  where
    go : (t : Bool) → is_reachable h event revision ≡ t → IsNumber place
    go true e =
        let high : place ≤ revision = rw e at below in
        let parts = and_parts (nat_le h.start revision) (nat_le revision (highest h event.hi)) e in
        let within = leb-true revision (highest h event.hi) parts.1 in
        let last = highest_last h.spans event.hi in
        omega (arith, high, within, last)
    go false e = let high : place ≤ 0 = rw e at below in omega (arith, high)
high_small h event place (Checkpoint revision) small below = let least = small revision refl in omega (arith, below, least)

cache_small : (h : History) (event : Event) (place : ℕ) → IsCachePlace h event place → IsNumber place
cache_small h event place within = let high = within.1 in let last = highest_last h.spans event.hi in omega (arith, high, last)

module _ (h : History) (choice : List ℕ) (readable : IsReadable h) (numbers : AreNumbers h) (chosen : IsChoice (ranges h) choice) where
  answer_fits : (number : ℕ) (event : Event) (w : Word) (answer : PlacedAnswer) → IsEvent h number event → word h number event ≡ w → IsPlacedAnswer h choice number event w answer → FitsAnswer answer
  answer_fits number event (Makes m) answer known is placed =
      let made = word_makes h number event m readable known is in
      let making = made.1.making in
      subst FitsAnswer (sym placed) (numbers.made m.number m.event m.item m.created making.known making.made)
  answer_fits number event (Removes removal) answer known is (place, cut, same) =
      let inside = cut_chosen h.removals choice (cut_of removal place) chosen cut in
      let behind = (readable.removals.sound removal (cut_removal h.removals choice (cut_of removal place) cut)).behind in
      let below = inside.1 in
      let high = behind.high in
      let last = highest_last h.spans behind.event.hi in
      let small : IsNumber place = omega (arith, below, high, last) in
      subst FitsAnswer (sym same) small
  answer_fits number event At answer known is (place, least, same) =
      subst FitsAnswer (sym same) (high_small h event place event.reading (λ revision e. numbers.checkpoints number event revision known e) least.inside.1)
  answer_fits number event Strays answer known is placed = subst FitsAnswer (sym placed) tt
  answer_fits number event Nothing answer known is placed = subst FitsAnswer (sym placed) tt

  decision_fits : (number : ℕ) (event : Event) (decided : Option Decision) (decision : Option PlacedDecision) → IsPlacedDecision h number event decided decision → FitsDecision decision
  decision_fits number event None decision none = subst FitsDecision (sym none) tt
  decision_fits number event (Some decided) decision (places, least, same) =
      let inside = least.decided.inside in
      subst FitsDecision (sym same) (record {
        roles = cache_small h event places.roles inside.of_roles;
        cluster_roles = cache_small h event places.cluster_roles inside.of_cluster_roles;
        bindings = cache_small h event places.bindings inside.of_bindings;
        cluster_bindings = cache_small h event places.cluster_bindings inside.of_cluster_bindings;
      })

  pub line_fits : (number : ℕ) (event : Event) (line : PlacedLine) → IsEvent h number event → IsPlacedLine h choice number event line → FitsPlaced line
  line_fits number event line known placed = record {
    line = (let same = placed.of_event in let small = numbers.lines number event known in omega (arith, same, small));
    answer = answer_fits number event (word h number event) line.answer known refl placed.answer;
    decision = decision_fits number event event.decision line.decision placed.decision;
  }

  events_rise : (i j : ℕ) (x y : Event) → i < j → IsEvent h i x → IsEvent h j y → x.line < y.line
  events_rise i j x y less at_i at_j =
      let within = slice_get_within h.events j y at_j in
      let below : (get_or h.events i x).line < (get_or h.events j x).line = readable.lines i j x less within in
      let one = same_Some (get_or h.events i x) x (sym (slice_get-get_or h.events i x (slice_get_within h.events i x at_i)) ∙ at_i) in
      let other = same_Some (get_or h.events j x) y (sym (slice_get-get_or h.events j x within) ∙ at_j) in
      let first : (get_or h.events i x).line ≡ x.line = ap (λ (e : Event). e.line) one in
      let second : (get_or h.events j x).line ≡ y.line = ap (λ (e : Event). e.line) other in
      omega (arith, below, first, second)

  module _ (lines : List PlacedLine) (are : ArePlacedLines h choice lines) where
    -- the event of a line
    pub event_at : (k : ℕ) (line : PlacedLine) → slice_get lines k ≡ Some line → (event : Event) × IsEvent h k event × IsPlacedLine h choice k event line
    event_at k line at =
        let within = slice_get_within lines k line at in
        let all = are.all in
        let found = get_within h.events k (omega (arith, within, all)) in
        (found.0, found.1, are.each k found.0 line found.1 at)

    pub fits_at : (k : ℕ) (line : PlacedLine) → slice_get lines k ≡ Some line → FitsPlaced line
    fits_at k line at = let found = event_at k line at in line_fits k found.0 line found.1 found.2

    rising : RisesByLine lines
    rising i j d less within =
        let one = event_at i (get_or lines i d) (slice_get-get_or lines i d (omega (arith, less, within))) in
        let other = event_at j (get_or lines j d) (slice_get-get_or lines j d within) in
        let below = events_rise i j one.0 other.0 less one.1 other.1 in
        let a = one.2.of_event in
        let b = other.2.of_event in
        omega (arith, below, a, b)

    pub placement_is : IsNumber (length h.events) → IsPlacement lines
    placement_is few = record {
      fits = all_from FitsPlaced lines (λ line c. (let at = in_at lines line c in fits_at at.0 line at.1));
      rising = rising;
      counted = (let all = are.all in omega (arith, all, few));
    }
