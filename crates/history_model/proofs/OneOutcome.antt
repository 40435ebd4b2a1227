-- A history has one outcome.
use Rattle.std.proofs.Common.{◌≡◌, ℕ, ◌<◌, ◌≤◌, ◌+◌, ◌⊎◌, List, [], ◌∷◌, length, slice_get, Option, Some, None, inl, inr, refl, sym, ap, ap₂, ◌∙◌, subst, arith}
use Rattle.std.specs.List.{AllZip}
use Rattle.std.proofs.lemmas.Option.{same_Some, slice_get_within}
use Rattle.base_types.specs.PlaceOrder.{IsUpTo}
use Rattle.base_types.specs.Choices.{IsChoice}
use Rattle.base_types.specs.declared.verdict.claim.Reason.{Reason}
use Rattle.base_types.specs.declared.verdict.placed.PlacedAnswer.{PlacedAnswer}
use Rattle.base_types.specs.declared.verdict.placed.PlacedAnswer.TheVariants as placed
use Rattle.base_types.specs.declared.verdict.placed.PlacedDecision.{PlacedDecision}
use Rattle.base_types.specs.declared.verdict.placed.PlacedLine.{PlacedLine}
use Rattle.base_types.specs.declared.verdict.placed.Places.{Places}
use Rattle.base_types.specs.declared.kubernetes.request.Decision.{Decision}
use Rattle.history_model.proofs.CodeLemmas.{same_code}
use Rattle.history_model.proofs.CutLemmas.{cut_of, cuts_apart}
use Rattle.history_model.proofs.Fits.{same_event}
use Rattle.history_model.proofs.Global.{global_is}
use Rattle.history_model.proofs.OutcomeLaw.{get_within, take_more_in}
use Rattle.history_model.proofs.SameSorted.{same_sorted, same_by_get}
use Rattle.history_model.specs.Events.{Event}
use Rattle.history_model.specs.Histories.{History, IsEvent, ranges}
use Rattle.history_model.specs.Local.{AreRightUpTo}
use Rattle.history_model.specs.Outcomes.{IsLeastOfRuns, IsEarliest, Write, write_place, write_rank, write_line, IsListedBefore, AreWrites, shown_low, shown_high, Outcome, Explained, Unexplained, IsFinding, IsOutcome}
use Rattle.history_model.specs.Placed.{IsPlacedAnswer, IsPlacedDecision, IsPlacedLine, ArePlacedLines}
use Rattle.history_model.specs.Readable.{IsReadable}
use Rattle.history_model.specs.Runs.{Placement, IsRun, IsExplainedUpTo}
use Rattle.history_model.specs.States.{Cut}
use Rattle.history_model.specs.Words.{Word, Makes, Removes, At, Strays, Nothing, word}

-- a longer prefix is never easier
pub explained_shorter : (h : History) (m n : ℕ) → IsReadable h → m ≤ n → IsExplainedUpTo h n → IsExplainedUpTo h m
explained_shorter h m n r l x = go ((global_is h n r).0 x)
  where
    go : (choice : List ℕ) × IsChoice (ranges h) choice × AreRightUpTo h n choice → IsExplainedUpTo h m
    go (choice, chosen, right) = (global_is h m r).1 (choice, chosen, λ number event j known. right number event (take_more_in h.order m n number l j) known)

same_least : (xs ys : List ℕ) → AllZip ◌≤◌ xs ys → AllZip ◌≤◌ ys xs → xs ≡ ys
same_least [] [] a b = refl
same_least [] (y ∷ ys) a b = absurd a
same_least (x ∷ xs) [] a b = absurd a
same_least (x ∷ xs) (y ∷ ys) a b = ap₂ (λ p q. p ∷ q) (omega (arith, a.0, b.0)) (same_least xs ys a.1 b.1)

pub least_same : (h : History) (a b : List ℕ) → IsLeastOfRuns h a → IsLeastOfRuns h b → a ≡ b
least_same h a b x y = same_least a b (subst (λ z. AllZip ◌≤◌ a z) y.chosen (x.least y.p y.run)) (subst (λ z. AllZip ◌≤◌ b z) x.chosen (y.least x.p x.run))

places_same : (a b : Places) → IsUpTo a b → IsUpTo b a → a ≡ b
places_same a b x y = λ i. record { roles = parts.0 i; cluster_roles = parts.1 i; bindings = parts.2 i; cluster_bindings = parts.3 i }
  where
    parts : (a.roles ≡ b.roles) × (a.cluster_roles ≡ b.cluster_roles) × (a.bindings ≡ b.bindings) × (a.cluster_bindings ≡ b.cluster_bindings)
    parts = omega (arith, x, y)

module _ (h : History) (choice : List ℕ) (r : IsReadable h) (number : ℕ) (event : Event) where
  answer_same : (w : Word) (a b : PlacedAnswer) → IsPlacedAnswer h choice number event w a → IsPlacedAnswer h choice number event w b → a ≡ b
  answer_same (Makes m) a b x y = x ∙ sym y
  answer_same (Removes removal) a b (p, c, e) (q, d, f) =
      e ∙ ap placed.Removed (ap (λ (z : Cut). z.place) (cuts_apart h.removals choice (cut_of removal p) (cut_of removal q) r.removals.rising c d refl)) ∙ sym f
  answer_same At a b (p, c, e) (q, d, f) = e ∙ ap placed.At (omega (arith, c.least q d.inside d.right, d.least p c.inside c.right)) ∙ sym f
  answer_same Strays a b x y = x ∙ sym y
  answer_same Nothing a b x y = x ∙ sym y

  decision_same : (o : Option Decision) (a b : Option PlacedDecision) → IsPlacedDecision h number event o a → IsPlacedDecision h number event o b → a ≡ b
  decision_same None a b x y = x ∙ sym y
  decision_same (Some d) a b (p, l, e) (q, m, f) = e ∙ ap (λ (z : Places). Some (record { decision = d; places = z })) (places_same p q (l.least q m.decided) (m.least p l.decided)) ∙ sym f

  line_same : (a b : PlacedLine) → IsPlacedLine h choice number event a → IsPlacedLine h choice number event b → a ≡ b
  line_same a b x y = λ i. record { line = lines i; answer = answers i; decision = decisions i }
    where
      lines : a.line ≡ b.line
      lines = x.of_event ∙ sym y.of_event

      answers : a.answer ≡ b.answer
      answers = answer_same (word h number event) a.answer b.answer x.answer y.answer

      decisions : a.decision ≡ b.decision
      decisions = decision_same event.decision a.decision b.decision x.decision y.decision

pub lines_same : (h : History) (choice : List ℕ) (a b : List PlacedLine) → IsReadable h → ArePlacedLines h choice a → ArePlacedLines h choice b → a ≡ b
lines_same h choice a b r x y = same_by_get a b (x.all ∙ sym y.all) each
  where
    each : (i : ℕ) (u v : PlacedLine) → slice_get a i ≡ Some u → slice_get b i ≡ Some v → u ≡ v
    each i u v p q = go (get_within h.events i (omega (arith, slice_get_within a i u p, x.all)))
      where
        go : (event : Event) × IsEvent h i event → u ≡ v
        go (event, known) = line_same h choice r i event u v (x.each i event u known p) (y.each i event v known q)

listed_once : (a b : Write) → IsListedBefore a b → IsListedBefore b a → ⊥
listed_once a b x y = numbers (write_place a) (write_rank a) (write_line a) (write_place b) (write_rank b) (write_line b) x y
  where
    numbers : (p q l u v w : ℕ) → (p < u) ⊎ ((p ≡ u) × (q < v)) ⊎ ((p ≡ u) × (q ≡ v) × (l < w)) → (u < p) ⊎ ((u ≡ p) × (v < q)) ⊎ ((u ≡ p) × (v ≡ q) × (w < l)) → ⊥
    numbers p q l u v w x y = omega (arith, x, y)

pub writes_same : (h : History) (low high : ℕ) (a b : List Write) → AreWrites h low high a → AreWrites h low high b → a ≡ b
writes_same h low high a b x y = same_sorted IsListedBefore a b (λ p q c d. listed_once p q) x.sorted y.sorted (λ w c. y.full w (x.sound w c)) (λ w c. x.full w (y.sound w c))

module _ (h : History) (r : IsReadable h) where
  -- where all is explained, no event is the earliest that isn't
  not_both : (p : Placement) (number : ℕ) (event : Event) (code : Reason) → IsRun h p → IsEarliest h number event code → ⊥
  not_both p number event code run e = e.unexplained (explained_shorter h (e.before + 1) (length h.order) r (omega (arith, slice_get_within h.order e.before number e.found)) (p, run))

  before_same : (m n : ℕ) (a b : Event) (c d : Reason) → (x : IsEarliest h m a c) → (y : IsEarliest h n b d) → x.before ≡ y.before
  before_same m n a b c d x y = go (grind arith)
    where
      go : (x.before < y.before) ⊎ (y.before < x.before) ⊎ (x.before ≡ y.before) → x.before ≡ y.before
      go (inl l) = absurd (x.unexplained (explained_shorter h (x.before + 1) y.before r (omega (arith, l)) y.explained))
      go (inr (inl l)) = absurd (y.unexplained (explained_shorter h (y.before + 1) x.before r (omega (arith, l)) x.explained))
      go (inr (inr e)) = e

  finding_same : (m n : ℕ) (c d : Reason) (l u k v : ℕ) (ws xs : List Write) → IsFinding h m c l u ws → IsFinding h n d k v xs → Unexplained m c l u ws ≡ Unexplained n d k v xs
  finding_same m n c d l u k v ws xs x y = λ i. Unexplained (numbers i) (codes i) (lows i) (highs i) (written i)
    where
      befores : x.earliest.before ≡ y.earliest.before
      befores = before_same m n x.event y.event c d x.earliest y.earliest

      numbers : m ≡ n
      numbers = same_Some m n (sym x.earliest.found ∙ ap (slice_get h.order) befores ∙ y.earliest.found)

      events : x.event ≡ y.event
      events = same_event h n x.event y.event (subst (λ z. IsEvent h z x.event) numbers x.earliest.known) y.earliest.known

      codes : c ≡ d
      codes = same_code c d (x.earliest.least.least d there) (y.earliest.least.least c back)
        where
          there : Rattle.history_model.specs.Codes.IsCandidate h x.earliest.before m x.event d
          there = subst (λ z. Rattle.history_model.specs.Codes.IsCandidate h z m x.event d) (sym befores)
              (subst (λ z. Rattle.history_model.specs.Codes.IsCandidate h y.earliest.before z x.event d) (sym numbers)
              (subst (λ z. Rattle.history_model.specs.Codes.IsCandidate h y.earliest.before n z d) (sym events) y.earliest.least.candidate))

          back : Rattle.history_model.specs.Codes.IsCandidate h y.earliest.before n y.event c
          back = subst (λ z. Rattle.history_model.specs.Codes.IsCandidate h z n y.event c) befores
              (subst (λ z. Rattle.history_model.specs.Codes.IsCandidate h x.earliest.before z y.event c) numbers
              (subst (λ z. Rattle.history_model.specs.Codes.IsCandidate h x.earliest.before m z c) events x.earliest.least.candidate))

      lows : l ≡ k
      lows = x.from ∙ ap₂ (shown_low h) events codes ∙ sym y.from

      highs : u ≡ v
      highs = x.to ∙ ap₂ (shown_high h) events codes ∙ sym y.to

      written : ws ≡ xs
      written = writes_same h k v ws xs (subst (λ z. AreWrites h k z ws) highs (subst (λ z. AreWrites h z u ws) lows x.written)) y.written

  one_outcome : (a b : Outcome) → IsOutcome h a → IsOutcome h b → a ≡ b
  one_outcome (Explained a) (Explained b) x y = ap Explained (lines_same h y.choice a b r (subst (λ z. ArePlacedLines h z a) (least_same h x.choice y.choice x.least y.least) x.placed) y.placed)
  one_outcome (Explained a) (Unexplained n d k v xs) x y = absurd (not_both x.least.p n y.event d x.least.run y.earliest)
  one_outcome (Unexplained m c l u ws) (Explained b) x y = absurd (not_both y.least.p m x.event c y.least.run x.earliest)
  one_outcome (Unexplained m c l u ws) (Unexplained n d k v xs) x y = finding_same m n c d l u k v ws xs x y

pub one_outcome_is : (h : History) (a b : Outcome) → IsReadable h → IsOutcome h a → IsOutcome h b → a ≡ b
one_outcome_is h a b r x y = one_outcome h r a b x y
