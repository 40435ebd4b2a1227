-- Lines without a difference stand at the numbers of their events; printed lines are verified.
use Rattle.std.proofs.Common.{◌≡◌, ℕ, ◌<◌, ◌≤◌, ◌⊎◌, true, ◌==◌, List, [], ◌∷◌, map, find, slice_get, Option, Some, None, option_map, AllPairs, Contains, inl, inr, refl, sym, ap, ◌∙◌, subst, arith}
use Rattle.std.proofs.lemmas.Option.{same_Some, slice_get_within, slice_get-map}
use Rattle.base_types.specs.Choices.{IsChoice}
use Rattle.base_types.specs.Placements.{RisesByLine}
use Rattle.base_types.specs.declared.verdict.placed.PlacedAnswer.{PlacedAnswer}
use Rattle.base_types.specs.declared.verdict.placed.PlacedAnswer.TheVariants as placed
use Rattle.base_types.specs.declared.verdict.placed.PlacedDecision.{PlacedDecision}
use Rattle.base_types.specs.declared.verdict.placed.PlacedLine.{PlacedLine}
use Rattle.base_types.specs.declared.kubernetes.request.Decision.{Decision}
use Rattle.base_types.specs.declared.kubernetes.request.Decision.TheVariants.{Allow, Forbid}
use Rattle.history_model.proofs.CheckLaw.{judged_all}
use Rattle.history_model.proofs.Fits.{same_event}
use Rattle.history_model.proofs.Members.{not_in_none, here, there, in_cons, all_at, all_from, at_in, in_at, at_apart, pairs_cons, pairs_head, pairs_tail}
use Rattle.history_model.proofs.OutcomeLaw.{get_within}
use Rattle.history_model.proofs.Printed.{printed_is}
use Rattle.history_model.proofs.SameSorted.{same_sorted}
use Rattle.history_model.proofs.WordLemmas.{found_in, not_found, eq_test, test_eq}
use Rattle.history_model.specs.Checking.{HasAnswerWord, HasDecisionWord, HasWords, DiffersAt, lacking, unknown, differing, IsOutside, IsMisplacedAt, NoLine, IsVerified}
use Rattle.history_model.specs.Decisions.{AreCachePlaces}
use Rattle.history_model.specs.Events.{Event}
use Rattle.history_model.specs.Histories.{History, IsEvent, ranges}
use Rattle.history_model.specs.Outcomes.{IsLeastOfRuns}
use Rattle.history_model.specs.Placed.{IsPlacedAnswer, IsPlacedDecision, IsPlacedLine, ArePlacedLines, answer_place, line_place, line_places, placement_of}
use Rattle.history_model.specs.Readable.{IsReadable}
use Rattle.history_model.specs.Runs.{IsRun}
use Rattle.history_model.specs.Windows.{InWindow}
use Rattle.history_model.specs.Words.{Word, Makes, Removes, At, Strays, Nothing, word}

-- a list's numbers
numbers_of : {X : Type 0} (f : X → ℕ) (xs : List X) (n : ℕ) → Contains (map f xs) n → (x : X) × Contains xs x × (f x ≡ n)
numbers_of f [] n c = absurd (not_in_none c)
numbers_of {X} f (x ∷ xs) n c = go (numbers_of f xs n) (in_cons (f x) (map f xs) n c)
  where
    go : (Contains (map f xs) n → (y : X) × Contains xs y × (f y ≡ n)) → (f x ≡ n) ⊎ Contains (map f xs) n → (y : X) × Contains (x ∷ xs) y × (f y ≡ n)
    go more (inl e) = (x, here x xs, e)
    go more (inr d) = ((more d).0, there x (more d).0 xs (more d).1, (more d).2)

in_numbers : {X : Type 0} (f : X → ℕ) (xs : List X) (x : X) → Contains xs x → Contains (map f xs) (f x)
in_numbers f [] x c = absurd (not_in_none c)
in_numbers {X} f (y ∷ ys) x c = go (in_numbers f ys x) (in_cons y ys x c)
  where
    go : (Contains ys x → Contains (map f ys) (f x)) → (y ≡ x) ⊎ Contains ys x → Contains (f y ∷ map f ys) (f x)
    go more (inl e) = subst (λ z. Contains (f y ∷ map f ys) (f z)) e (here (f y) (map f ys))
    go more (inr d) = there (f y) (f x) (map f ys) (more d)

rising_numbers : {X : Type 0} (f : X → ℕ) (xs : List X) → AllPairs (λ a b. f a < f b) xs → AllPairs ◌<◌ (map f xs)
rising_numbers f [] h = λ i j d l m. absurd (omega arith)
rising_numbers {X} f (x ∷ xs) h = pairs_cons ◌<◌ (f x) (map f xs) (all_from (λ n. f x < n) (map f xs) (λ n c. at n (numbers_of f xs n c))) (rising_numbers f xs (pairs_tail (λ a b. f a < f b) x xs h))
  where
    at : (n : ℕ) → (y : X) × Contains xs y × (f y ≡ n) → f x < n
    at n (y, c, e) = omega (arith, all_at (λ z. f x < f z) xs y (pairs_head (λ a b. f a < f b) x xs h) c, e)

-- words are told apart
answer_decides : (w : Word) (a : PlacedAnswer) → HasAnswerWord w a ⊎ (HasAnswerWord w a → ⊥)
answer_decides (Makes m) (placed.Made n) = inl (n, refl)
answer_decides (Makes m) (placed.Removed n) = inr (λ x. cc (x.1))
answer_decides (Makes m) (placed.At n) = inr (λ x. cc (x.1))
answer_decides (Makes m) placed.Nowhere = inr (λ x. cc (x.1))
answer_decides (Removes r) (placed.Made n) = inr (λ x. cc (x.1))
answer_decides (Removes r) (placed.Removed n) = inl (n, refl)
answer_decides (Removes r) (placed.At n) = inr (λ x. cc (x.1))
answer_decides (Removes r) placed.Nowhere = inr (λ x. cc (x.1))
answer_decides At (placed.Made n) = inr (λ x. cc (x.1))
answer_decides At (placed.Removed n) = inr (λ x. cc (x.1))
answer_decides At (placed.At n) = inl (n, refl)
answer_decides At placed.Nowhere = inr (λ x. cc (x.1))
answer_decides Strays (placed.Made n) = inr (λ x. cc x)
answer_decides Strays (placed.Removed n) = inr (λ x. cc x)
answer_decides Strays (placed.At n) = inr (λ x. cc x)
answer_decides Strays placed.Nowhere = inl refl
answer_decides Nothing (placed.Made n) = inr (λ x. cc x)
answer_decides Nothing (placed.Removed n) = inr (λ x. cc x)
answer_decides Nothing (placed.At n) = inr (λ x. cc x)
answer_decides Nothing placed.Nowhere = inl refl

same_decision : (a b : Decision) → (a ≡ b) ⊎ (a ≡ b → ⊥)
same_decision Allow Allow = inl refl
same_decision Allow Forbid = inr (λ e. cc e)
same_decision Forbid Allow = inr (λ e. cc e)
same_decision Forbid Forbid = inl refl

decision_decides : (o : Option Decision) (d : Option PlacedDecision) → HasDecisionWord o d ⊎ (HasDecisionWord o d → ⊥)
decision_decides None None = inl refl
decision_decides None (Some d) = inr (λ x. cc x)
decision_decides (Some a) None = inr (λ x. cc (x.1))
decision_decides (Some a) (Some d) = go (same_decision d.decision a)
  where
    go : (d.decision ≡ a) ⊎ (d.decision ≡ a → ⊥) → HasDecisionWord (Some a) (Some d) ⊎ (HasDecisionWord (Some a) (Some d) → ⊥)
    go (inl e) = inl (d.places, λ i. Some (record { decision = e i; places = d.places }))
    go (inr n) = inr (λ x. n (ap (λ (z : PlacedDecision). z.decision) (same_Some d (record { decision = a; places = x.0 }) x.1)))

words_decide : (h : History) (number : ℕ) (event : Event) (line : PlacedLine) → HasWords h number event line ⊎ (HasWords h number event line → ⊥)
words_decide h number event line = go (answer_decides (word h number event) line.answer) (decision_decides event.decision line.decision)
  where
    go : HasAnswerWord (word h number event) line.answer ⊎ (HasAnswerWord (word h number event) line.answer → ⊥) → HasDecisionWord event.decision line.decision ⊎ (HasDecisionWord event.decision line.decision → ⊥)
        → HasWords h number event line ⊎ (HasWords h number event line → ⊥)
    go (inl a) (inl b) = inl (record { answer = a; decision = b })
    go (inl a) (inr b) = inr (λ w. b w.decision)
    go (inr a) b = inr (λ w. a w.answer)

module _ (h : History) (r : IsReadable h) (lines : List PlacedLine) (rising : RisesByLine lines) (alike : NoLine (DiffersAt h lines)) where
  line_numbers : map (λ (l : PlacedLine). l.line) lines ≡ map (λ (e : Event). e.line) h.events
  line_numbers = same_sorted ◌<◌ (map (λ (l : PlacedLine). l.line) lines) (map (λ (e : Event). e.line) h.events) (λ a b c d l m. omega (arith, l, m))
      (rising_numbers (λ (l : PlacedLine). l.line) lines rising) (rising_numbers (λ (e : Event). e.line) h.events r.lines) to back
    where
      to : (n : ℕ) → Contains (map (λ (l : PlacedLine). l.line) lines) n → Contains (map (λ (e : Event). e.line) h.events) n
      to n c = go (numbers_of (λ (l : PlacedLine). l.line) lines n c) (find (λ (e : Event). e.line == n) h.events) refl
        where
          go : (l : PlacedLine) × Contains lines l × (l.line ≡ n) → (o : Option Event) → find (λ (e : Event). e.line == n) h.events ≡ o → Contains (map (λ (e : Event). e.line) h.events) n
          go x (Some e) q = let f : Contains h.events e × ((e.line == n) ≡ true) = found_in (λ (e : Event). e.line == n) h.events e q in
              subst (λ z. Contains (map (λ (e : Event). e.line) h.events) z) (eq_test e.line n f.1) (in_numbers (λ (e : Event). e.line) h.events e f.0)
          go (l, d, e) None q = absurd (alike n (unknown l d e (λ number event known p. not_found (λ (x : Event). x.line == n) h.events q event (at_in h.events number event known) (test_eq event.line n p))))

      back : (n : ℕ) → Contains (map (λ (e : Event). e.line) h.events) n → Contains (map (λ (l : PlacedLine). l.line) lines) n
      back n c = go (numbers_of (λ (e : Event). e.line) h.events n c) (find (λ (l : PlacedLine). l.line == n) lines) refl
        where
          go : (e : Event) × Contains h.events e × (e.line ≡ n) → (o : Option PlacedLine) → find (λ (l : PlacedLine). l.line == n) lines ≡ o → Contains (map (λ (l : PlacedLine). l.line) lines) n
          go x (Some l) q = let f : Contains lines l × ((l.line == n) ≡ true) = found_in (λ (l : PlacedLine). l.line == n) lines l q in
              subst (λ z. Contains (map (λ (l : PlacedLine). l.line) lines) z) (eq_test l.line n f.1) (in_numbers (λ (l : PlacedLine). l.line) lines l f.0)
          go (e, d, p) None q = at (in_at h.events e d)
            where
              at : (i : ℕ) × (slice_get h.events i ≡ Some e) → Contains (map (λ (l : PlacedLine). l.line) lines) n
              at (i, known) = absurd (alike n (lacking i e known p (λ l c k. not_found (λ (x : PlacedLine). x.line == n) lines q l c (test_eq l.line n k))))

  pub spelled_is : (number : ℕ) (event : Event) → IsEvent h number event → (line : PlacedLine) × (slice_get lines number ≡ Some line) × (line.line ≡ event.line) × HasWords h number event line
  spelled_is number event known = go (slice_get lines number) refl
    where
      numbers : option_map (λ (l : PlacedLine). l.line) (slice_get lines number) ≡ Some event.line
      numbers = sym (slice_get-map (λ (l : PlacedLine). l.line) lines number) ∙ ap (λ xs. slice_get xs number) line_numbers ∙ slice_get-map (λ (e : Event). e.line) h.events number ∙ ap (option_map (λ (e : Event). e.line)) known

      go : (o : Option PlacedLine) → slice_get lines number ≡ o → (line : PlacedLine) × (slice_get lines number ≡ Some line) × (line.line ≡ event.line) × HasWords h number event line
      go None q = let f : option_map (λ (l : PlacedLine). l.line) None ≡ Some event.line = subst (λ z. option_map (λ (l : PlacedLine). l.line) z ≡ Some event.line) q numbers in absurd (cc f)
      go (Some line) q = (line, q, same, by (words_decide h number event line))
        where
          same : line.line ≡ event.line
          same = same_Some line.line event.line (subst (λ z. option_map (λ (l : PlacedLine). l.line) z ≡ Some event.line) q numbers)

          by : HasWords h number event line ⊎ (HasWords h number event line → ⊥) → HasWords h number event line
          by (inl w) = w
          by (inr n) = absurd (alike event.line (differing number event line known refl (at_in lines number line q) same n))

-- printed lines are verified
module _ (h : History) (choice : List ℕ) (lines : List PlacedLine) (r : IsReadable h) (least : IsLeastOfRuns h choice) (p : ArePlacedLines h choice lines) where
  at_number : (number : ℕ) (event : Event) → IsEvent h number event → (line : PlacedLine) × (slice_get lines number ≡ Some line) × IsPlacedLine h choice number event line
  at_number number event known = go (get_within lines number (omega (arith, slice_get_within h.events number event known, p.all)))
    where
      go : (line : PlacedLine) × (slice_get lines number ≡ Some line) → (line : PlacedLine) × (slice_get lines number ≡ Some line) × IsPlacedLine h choice number event line
      go (line, e) = (line, e, p.each number event line known e)

  of_line : (line : PlacedLine) → Contains lines line → (number : ℕ) × (event : Event) × IsEvent h number event × IsPlacedLine h choice number event line
  of_line line c = go (in_at lines line c)
    where
      go : (i : ℕ) × (slice_get lines i ≡ Some line) → (number : ℕ) × (event : Event) × IsEvent h number event × IsPlacedLine h choice number event line
      go (i, e) = at (get_within h.events i (omega (arith, slice_get_within lines i line e, p.all)))
        where
          at : (event : Event) × (slice_get h.events i ≡ Some event) → (number : ℕ) × (event : Event) × IsEvent h number event × IsPlacedLine h choice number event line
          at (event, known) = (i, event, known, p.each i event line known e)

  answer_word_of : (number : ℕ) (event : Event) (w : Word) (a : PlacedAnswer) → IsPlacedAnswer h choice number event w a → HasAnswerWord w a
  answer_word_of number event (Makes m) a x = (m.item.revision, x)
  answer_word_of number event (Removes removal) a x = (x.0, x.2)
  answer_word_of number event At a x = (x.0, x.2)
  answer_word_of number event Strays a x = x
  answer_word_of number event Nothing a x = x

  decision_word_of : (number : ℕ) (event : Event) (o : Option Decision) (d : Option PlacedDecision) → IsPlacedDecision h number event o d → HasDecisionWord o d
  decision_word_of number event None d x = x
  decision_word_of number event (Some a) d x = (x.0, x.2)

  has_words : (number : ℕ) (event : Event) (line : PlacedLine) → IsPlacedLine h choice number event line → HasWords h number event line
  has_words number event line x = record { answer = answer_word_of number event (word h number event) line.answer x.answer; decision = decision_word_of number event event.decision line.decision x.decision }

  printed_alike : NoLine (DiffersAt h lines)
  printed_alike at (lacking number event known e none) = go (at_number number event known)
    where
      go : (line : PlacedLine) × (slice_get lines number ≡ Some line) × IsPlacedLine h choice number event line → ⊥
      go (line, q, x) = none line (at_in lines number line q) (x.of_event ∙ e)
  printed_alike at (unknown line c e none) = go (of_line line c)
    where
      go : (number : ℕ) × (event : Event) × IsEvent h number event × IsPlacedLine h choice number event line → ⊥
      go (number, event, known, x) = none number event known (sym x.of_event ∙ e)
  printed_alike at (differing number event line known e c f none) = go (of_line line c)
    where
      go : (n : ℕ) × (ev : Event) × IsEvent h n ev × IsPlacedLine h choice n ev line → ⊥
      go (n, ev, k, x) = none (subst (λ z. HasWords h z event line) same (subst (λ z. HasWords h n z line) events (has_words n ev line x)))
        where
          same : n ≡ number
          same = at_apart (λ (z : Event). z.line) h.events n number ev event r.lines k known (sym x.of_event ∙ f ∙ sym e)

          events : ev ≡ event
          events = same_event h number ev event (subst (λ z. IsEvent h z ev) same k) known

  printed_inside : NoLine (IsMisplacedAt h lines)
  printed_inside at m = go (at_number m.number m.event m.known) m.outside
    where
      run : IsRun h (placement_of h lines)
      run = (printed_is h choice lines r least p).0

      go : (line : PlacedLine) × (slice_get lines m.number ≡ Some line) × IsPlacedLine h choice m.number m.event line
          → IsOutside h m.event (word h m.number m.event) (line_place (slice_get lines m.number))
          ⊎ ((decided : Decision) × (m.event.decision ≡ Some decided) × (AreCachePlaces h m.event (line_places (slice_get lines m.number)) → ⊥)) → ⊥
      go (line, q, x) (inr (decided, e, n)) = n (run.placed.decisions m.number m.event decided (judged_all h r m.number m.event m.known) m.known e).inside
      go (line, q, x) (inl o) = by (word h m.number m.event) refl x.answer o
        where
          by : (w : Word) → word h m.number m.event ≡ w → IsPlacedAnswer h choice m.number m.event w line.answer → IsOutside h m.event w (line_place (slice_get lines m.number)) → ⊥
          by (Makes k) e a o = o (ap line_place q ∙ ap answer_place a)
          by (Removes removal) e (place, c, a) o = o (subst (λ z. (removal.range.low ≤ z) × (z ≤ removal.range.high)) (sym (ap line_place q ∙ ap answer_place a))
              (Rattle.history_model.proofs.CutLemmas.cut_chosen h.removals choice (record { removal = removal; place = place }) chosen c))
            where
              chosen : IsChoice (ranges h) choice
              chosen = subst (λ z. IsChoice (ranges h) z) least.chosen least.run.placed.chosen
          by At e (place, l, a) o = o (subst (λ z. InWindow h m.event z) (sym (ap line_place q ∙ ap answer_place a)) l.inside)
          by Strays e a o = o
          by Nothing e a o = o

  pub printed_verified : IsVerified h lines
  printed_verified = record { alike = printed_alike; inside = printed_inside; run = (printed_is h choice lines r least p).0 }
