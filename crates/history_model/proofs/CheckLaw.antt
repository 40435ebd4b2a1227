-- The check finds a fault exactly where the placement isn't a run of the log's lines, and it finds one.
use Rattle.std.proofs.Common.{◌≡◌, ℕ, ◌<◌, ◌≤◌, ◌⊎◌, Bool, true, false, List, [], ◌∷◌, ◌++◌, length, map, slice_get, Some, AllPairs, Contains, inl, inr, refl, sym, ap, ap₂, ◌∙◌, subst, arith, true≢false}
use Rattle.std.proofs.lemmas.Option.{slice_get_within}
use Rattle.std.proofs.lemmas.List.Elements.{Contains-append_right}
use Rattle.base_types.specs.Choices.{IsChoice, IsPlaceOf}
use Rattle.base_types.specs.declared.verdict.claim.Reason.{Reason}
use Rattle.base_types.specs.declared.verdict.placed.PlacedLine.{PlacedLine}
use Rattle.base_types.specs.declared.verdict.placed.Places.{Places}
use Rattle.base_types.specs.declared.kubernetes.request.Decision.{Decision}
use Rattle.history_model.proofs.CodeLemmas.{same_code}
use Rattle.history_model.proofs.Members.{here, there, pairs_cons}
use Rattle.history_model.proofs.OutcomeLaw.{take_whole}
use Rattle.history_model.proofs.SameSorted.{same_sorted}
use Rattle.history_model.proofs.Sorting.{precedes_trans}
use Rattle.history_model.proofs.Steps.{precedes_self}
use Rattle.history_model.proofs.Splits.{runs_each}
use Rattle.history_model.proofs.WordLemmas.{removal_word_is}
use Rattle.history_model.specs.Checking.{CheckCode, Judged, DiffersAt, HasStandingCode, by_level, by_stage, by_stray, HasCodeAt, HasSomeCodeAt, IsOutside, IsMisplacedAt, HasStepCode, at_put, at_remove, at_found, at_reply, EachStep, IsStepFault, AreAllowed, IsUndecidedAt, IsLeastLine, IsFirstFault, of_lines, of_policy, of_places, of_steps, of_decisions, IsFaultless, IsVerified}
use Rattle.history_model.specs.Decisions.{IsCachePlace, AreCachePlaces}
use Rattle.history_model.specs.Events.{Event, Made}
use Rattle.history_model.specs.Histories.{History, Removal, IsEvent, ranges}
use Rattle.history_model.specs.Incarnations.{IsRemoval}
use Rattle.history_model.specs.Judging.{IsJudged}
use Rattle.history_model.specs.Machine.{Step, Precedes, InOrder, IsAllowed, Runs, after, after_all, snapshot_map, step_line}
use Rattle.history_model.specs.Placed.{placement_of, line_place, line_places}
use Rattle.history_model.specs.Readable.{IsReadable}
use Rattle.history_model.specs.Right.{IsRightAnswer}
use Rattle.history_model.specs.Runs.{Placement, IsStep, AreSteps, IsOfFirst, IsSound, IsPlacedUpTo}
use Rattle.history_model.specs.States.{Map}
use Rattle.history_model.specs.Windows.{low_end, high_end, decision_low, decision_high}
use Rattle.history_model.specs.Words.{Word, Removes, At, word}

runs_weaker : (h : History) (J K : Step → Type 0) (map : Map) (steps : List Step) → ((s : Step) → Contains steps s → K s → J s) → Runs h J map steps → Runs h K map steps
runs_weaker h J K map [] f r = tt
runs_weaker h J K map (s ∷ ss) f r = ((λ k. r.0 (f s (here s ss) k)), runs_weaker h J K (after map s) ss (λ t c k. f t (there s t ss c) k) r.1)

-- an allowed step has no code
allowed_no_code : (h : History) (map : Map) (step : Step) (code : Reason) → IsAllowed h map step → HasStepCode h map step code → ⊥
allowed_no_code h map step code a (at_put v m e making maker fault) = (subst (λ s. IsAllowed h map s) e a) m making maker code fault
allowed_no_code h map step code a (at_remove cut event c e known none) = none ((subst (λ s. IsAllowed h map s) e a) event known)
allowed_no_code h map step code a (at_found number event place item created e answer clear fault) = go (subst (λ z. IsRightAnswer h number event place map z) answer (subst (λ s. IsAllowed h map s) e a))
  where
    go : IsRightAnswer h number event place map (Made item created) → ⊥
    go (inl cloud) = clear cloud
    go (inr right) = right.1 code fault
allowed_no_code h map step code a (at_reply number event place c e none) = none (subst (λ s. IsAllowed h map s) e a)

-- a step with a code is of one of the log's events
coded_is_judged : (h : History) (n : ℕ) (p : Placement) (map : Map) (step : Step) (code : Reason) → ((number : ℕ) (event : Event) → IsEvent h number event → IsJudged h n number)
    → IsStep h n p step → HasStepCode h map step code → IsOfFirst h n step
coded_is_judged h n p map step code all is (at_put v m e making maker fault) = subst (λ s. IsOfFirst h n s) (sym e) (m.number, maker, all m.number m.event making.known)
coded_is_judged h n p map step code all is (at_remove cut event c e known none) = subst (λ s. IsOfFirst h n s) (sym e) (all cut.removal.range.event event known)
coded_is_judged h n p map step code all is (at_found number event place item created e answer clear fault) = subst (λ s. IsOfFirst h n s) (sym e) (subst (λ s. IsStep h n p s) e is).0
coded_is_judged h n p map step code all is (at_reply number event place c e none) = subst (λ s. IsOfFirst h n s) (sym e) (subst (λ s. IsStep h n p s) e is).0

-- a placement has one list of steps
order_pairs : (h : History) (steps : List Step) → InOrder h steps → AllPairs (Precedes h) steps
order_pairs h [] o = λ i j d l m. absurd (omega arith)
order_pairs h (s ∷ ss) o = pairs_cons (Precedes h) s ss o.0 (order_pairs h ss o.1)

pub steps_same : (h : History) (n : ℕ) (p : Placement) (a b : List Step) → AreSteps h n p a → AreSteps h n p b → a ≡ b
steps_same h n p a b x y = same_sorted (Precedes h) a b (λ s t c d l m. precedes_self h s (precedes_trans h s t s l m)) (order_pairs h a x.order) (order_pairs h b y.order)
    (λ s c. y.full s (x.sound s c)) (λ s c. x.full s (y.sound s c))

module _ (h : History) (r : IsReadable h) where
  pub judged_all : (number : ℕ) (event : Event) → IsEvent h number event → IsJudged h (length h.order) number
  judged_all number event known = take_whole h.order number (r.order.full number (slice_get_within h.events number event known))

  -- a step fault isn't in a run
  pub fault_no_run : (lines : List PlacedLine) (at : ℕ) (code : Reason) (K : Step → Type 0) → ((s : Step) → IsOfFirst h (length h.order) s → K s) → (steps : List Step)
      → AreSteps h (length h.order) (placement_of h lines) steps → Runs h K (snapshot_map h) steps → IsStepFault h lines at code → ⊥
  fault_no_run lines at code K weak steps are runs f = allowed_no_code h (after_all (snapshot_map h) f.done) f.step code
      (runs_each h K (snapshot_map h) f.done f.step f.rest (subst (λ zs. Runs h K (snapshot_map h) zs) (steps_same h (length h.order) (placement_of h lines) steps f.steps are f.are ∙ f.whole) runs)
      (weak f.step (coded_is_judged h (length h.order) (placement_of h lines) (after_all (snapshot_map h) f.done) f.step code judged_all is f.has))) f.has
    where
      is : IsStep h (length h.order) (placement_of h lines) f.step
      is = f.are.sound f.step (subst (λ zs. Contains zs f.step) (sym f.whole) (Contains-append_right f.done (f.step ∷ f.rest) f.step (here f.step f.rest)))

  -- what a run says of standing codes
  sound_no_code : (number : ℕ) (event : Event) (code : Reason) → IsSound h number event → HasStandingCode h number event code → ⊥
  sound_no_code number event code s (by_level c e) = true≢false (sym e ∙ s.level)
  sound_no_code number event code s (by_stage c e) = true≢false (sym e ∙ s.stage)
  sound_no_code number event code s (by_stray c e) = s.no_stray e

  -- a fault and a verified placement exclude each other
  pub fault_is : (lines : List PlacedLine) (at : ℕ) (code : CheckCode) → IsFirstFault h lines at code → IsVerified h lines → ⊥
  fault_is lines at code (of_lines c l) v = v.alike at l.0
  fault_is lines at code (of_policy reason c alike l has least) v = sound_no_code has.number has.event reason (v.run.placed.sound has.number has.event (judged_all has.number has.event has.known) has.known) has.has
  fault_is lines at code (of_places c alike standing l) v = v.inside at l.0
  fault_is lines at code (of_steps reason c fits f) v = fault_no_run lines at reason (IsOfFirst h (length h.order)) (λ s k. k) v.run.steps v.run.are v.run.runs f
  fault_is lines at code (of_decisions c fits allowed l) v = true≢false (sym (v.run.placed.decisions u.number u.event u.decided (judged_all u.number u.event u.known) u.known u.judged).right ∙ u.wrong)
    where
      u : IsUndecidedAt h lines at
      u = l.0

-- where two splits of a list lie
compare_splits : {X : Type 0} (a : List X) (x : X) (b c : List X) (y : X) (d : List X) → a ++ x ∷ b ≡ c ++ y ∷ d
    → ((a ≡ c) × (x ≡ y)) ⊎ ((e : List X) × (c ≡ a ++ x ∷ e)) ⊎ ((e : List X) × (a ≡ c ++ y ∷ e))
compare_splits [] x b [] y d e = inl (refl, cc e)
compare_splits [] x b (z ∷ c) y d e = inr (inl (c, ap (λ w. w ∷ c) (cc e)))
compare_splits (z ∷ a) x b [] y d e = inr (inr (a, ap (λ w. w ∷ a) (cc e)))
compare_splits {X} (z ∷ a) x b (w ∷ c) y d e = go (compare_splits a x b c y d (cc e)) (cc e)
  where
    go : ((a ≡ c) × (x ≡ y)) ⊎ ((e : List X) × (c ≡ a ++ x ∷ e)) ⊎ ((e : List X) × (a ≡ c ++ y ∷ e)) → z ≡ w
        → ((z ∷ a ≡ w ∷ c) × (x ≡ y)) ⊎ ((e : List X) × (w ∷ c ≡ (z ∷ a) ++ x ∷ e)) ⊎ ((e : List X) × (z ∷ a ≡ (w ∷ c) ++ y ∷ e))
    go (inl p) q = inl (ap₂ (λ u v. u ∷ v) q p.0, p.1)
    go (inr (inl (f, p))) q = inr (inl (f, ap₂ (λ u v. u ∷ v) (sym q) p))
    go (inr (inr (f, p))) q = inr (inr (f, ap₂ (λ u v. u ∷ v) q p))

module _ (h : History) (r : IsReadable h) (lines : List PlacedLine) where
  step_fault_same : (at other : ℕ) (c d : Reason) → IsStepFault h lines at c → IsStepFault h lines other d → (at ≡ other) × (c ≡ d)
  step_fault_same at other c d f g = go (compare_splits f.done f.step f.rest g.done g.step g.rest (sym f.whole ∙ steps_same h (length h.order) (placement_of h lines) f.steps g.steps f.are g.are ∙ g.whole))
    where
      earlier : (a b : ℕ) (x y : Reason) → (u : IsStepFault h lines a x) → (v : IsStepFault h lines b y) → (e : List Step) → v.done ≡ u.done ++ u.step ∷ e → ⊥
      earlier a b x y u v e q = allowed_no_code h (after_all (snapshot_map h) u.done) u.step x
          (runs_each h EachStep (snapshot_map h) u.done u.step e (subst (λ zs. Runs h EachStep (snapshot_map h) zs) q v.before) tt) u.has

      go : ((f.done ≡ g.done) × (f.step ≡ g.step)) ⊎ ((e : List Step) × (g.done ≡ f.done ++ f.step ∷ e)) ⊎ ((e : List Step) × (f.done ≡ g.done ++ g.step ∷ e)) → (at ≡ other) × (c ≡ d)
      go (inl (p, q)) = (sym f.of_line ∙ ap (step_line h) q ∙ g.of_line, same_code c d (f.least d there) (g.least c back))
        where
          there : HasStepCode h (after_all (snapshot_map h) f.done) f.step d
          there = subst (λ z. HasStepCode h (after_all (snapshot_map h) z) f.step d) (sym p) (subst (λ z. HasStepCode h (after_all (snapshot_map h) g.done) z d) (sym q) g.has)

          back : HasStepCode h (after_all (snapshot_map h) g.done) g.step c
          back = subst (λ z. HasStepCode h (after_all (snapshot_map h) z) g.step c) p (subst (λ z. HasStepCode h (after_all (snapshot_map h) f.done) z c) q f.has)
      go (inr (inl (e, q))) = absurd (earlier at other c d f g e q)
      go (inr (inr (e, q))) = absurd (earlier other at d c g f e q)

  least_line_same : (Q : ℕ → Type 0) (a b : ℕ) → IsLeastLine Q a → IsLeastLine Q b → a ≡ b
  least_line_same Q a b x y = omega (arith, x.1 b y.0, y.1 a x.0)

  step_fault_not_allowed : (at : ℕ) (c : Reason) → AreAllowed h lines → IsStepFault h lines at c → ⊥
  step_fault_not_allowed at c a f = fault_no_run h r lines at c EachStep (λ s k. tt) a.steps a.are a.runs f

  pub one_fault_is : (a b : ℕ) (c d : CheckCode) → IsFirstFault h lines a c → IsFirstFault h lines b d → (a ≡ b) × (c ≡ d)
  one_fault_is a b c d (of_lines e l) (of_lines f m) = (least_line_same (DiffersAt h lines) a b l m, e ∙ sym f)
  one_fault_is a b c d (of_lines e l) (of_policy y f alike m has least) = absurd (alike a l.0)
  one_fault_is a b c d (of_lines e l) (of_places f alike standing m) = absurd (alike a l.0)
  one_fault_is a b c d (of_lines e l) (of_steps y f fits s) = absurd (fits.alike a l.0)
  one_fault_is a b c d (of_lines e l) (of_decisions f fits allowed m) = absurd (fits.alike a l.0)
  one_fault_is a b c d (of_policy x e alike l has least) (of_lines f m) = absurd (alike b m.0)
  one_fault_is a b c d (of_policy x e alike l has least) (of_policy y f other m had lesser) = (same, e ∙ ap Judged (same_code x y (least y (subst (λ z. HasCodeAt h z y) (sym same) had)) (lesser x (subst (λ z. HasCodeAt h z x) same has))) ∙ sym f)
    where
      same : a ≡ b
      same = least_line_same (HasSomeCodeAt h) a b l m
  one_fault_is a b c d (of_policy x e alike l has least) (of_places f other standing m) = absurd (standing a l.0)
  one_fault_is a b c d (of_policy x e alike l has least) (of_steps y f fits s) = absurd (fits.standing a l.0)
  one_fault_is a b c d (of_policy x e alike l has least) (of_decisions f fits allowed m) = absurd (fits.standing a l.0)
  one_fault_is a b c d (of_places e alike standing l) (of_lines f m) = absurd (alike b m.0)
  one_fault_is a b c d (of_places e alike standing l) (of_policy y f other m had lesser) = absurd (standing b m.0)
  one_fault_is a b c d (of_places e alike standing l) (of_places f other stood m) = (least_line_same (IsMisplacedAt h lines) a b l m, e ∙ sym f)
  one_fault_is a b c d (of_places e alike standing l) (of_steps y f fits s) = absurd (fits.inside a l.0)
  one_fault_is a b c d (of_places e alike standing l) (of_decisions f fits allowed m) = absurd (fits.inside a l.0)
  one_fault_is a b c d (of_steps x e fits s) (of_lines f m) = absurd (fits.alike b m.0)
  one_fault_is a b c d (of_steps x e fits s) (of_policy y f other m had lesser) = absurd (fits.standing b m.0)
  one_fault_is a b c d (of_steps x e fits s) (of_places f other stood m) = absurd (fits.inside b m.0)
  one_fault_is a b c d (of_steps x e fits s) (of_steps y f fitted t) = ((step_fault_same a b x y s t).0, e ∙ ap Judged (step_fault_same a b x y s t).1 ∙ sym f)
  one_fault_is a b c d (of_steps x e fits s) (of_decisions f fitted allowed m) = absurd (step_fault_not_allowed a x allowed s)
  one_fault_is a b c d (of_decisions e fits allowed l) (of_lines f m) = absurd (fits.alike b m.0)
  one_fault_is a b c d (of_decisions e fits allowed l) (of_policy y f other m had lesser) = absurd (fits.standing b m.0)
  one_fault_is a b c d (of_decisions e fits allowed l) (of_places f other stood m) = absurd (fits.inside b m.0)
  one_fault_is a b c d (of_decisions e fits allowed l) (of_steps y f fitted t) = absurd (step_fault_not_allowed b y allowed t)
  one_fault_is a b c d (of_decisions e fits allowed l) (of_decisions f fitted allow m) = (least_line_same (IsUndecidedAt h lines) a b l m, e ∙ sym f)

-- places that aren't outside are inside
between : (low place high : ℕ) → ((low ≤ place) × (place ≤ high) → ⊥) → (place < low) ⊎ (high < place)
between low place high n = go (grind arith) (grind arith)
  where
    go : (low ≤ place) ⊎ (place < low) → (place ≤ high) ⊎ (high < place) → (place < low) ⊎ (high < place)
    go (inl a) (inl b) = absurd (n (a, b))
    go (inl a) (inr b) = inr b
    go (inr a) b = inl a

inside : (low place high : ℕ) → (((low ≤ place) × (place ≤ high) → ⊥) → ⊥) → (low ≤ place) × (place ≤ high)
inside low place high n = go (grind arith) (grind arith)
  where
    go : (low ≤ place) ⊎ (place < low) → (place ≤ high) ⊎ (high < place) → (low ≤ place) × (place ≤ high)
    go (inl a) (inl b) = (a, b)
    go (inl a) (inr b) = absurd (n (λ w. omega (arith, w.1, b)))
    go (inr a) b = absurd (n (λ w. omega (arith, w.0, a)))

not_true : (b : Bool) → (b ≡ true → ⊥) → b ≡ false
not_true true n = absurd (n refl)
not_true false n = refl

not_false : (b : Bool) → (b ≡ false → ⊥) → b ≡ true
not_false true n = refl
not_false false n = absurd (n refl)

chosen_from : (removals : List Removal) (f : Removal → ℕ) → ((removal : Removal) → Contains removals removal → IsPlaceOf removal.range (f removal))
    → IsChoice (map (λ removal. removal.range) removals) (map f removals)
chosen_from [] f each = tt
chosen_from (x ∷ xs) f each = (each x (here x xs), chosen_from xs f (λ y c. each y (there x y xs c)))

module _ (h : History) (r : IsReadable h) (lines : List PlacedLine) (f : IsFaultless h lines) where
  not_outside : (number : ℕ) (event : Event) → IsEvent h number event → (w : Word) → word h number event ≡ w → IsOutside h event w (line_place (slice_get lines number)) → ⊥
  not_outside number event known w e o = f.fitting.inside event.line (record {
    number = number;
    event = event;
    known = known;
    of_line = refl;
    outside = inl (subst (λ z. IsOutside h event z (line_place (slice_get lines number))) (sym e) o);
  })

  chosen : IsChoice (ranges h) (placement_of h lines).choice
  chosen = chosen_from h.removals (λ removal. line_place (slice_get lines removal.range.event)) each
    where
      each : (removal : Removal) → Contains h.removals removal → IsPlaceOf removal.range (line_place (slice_get lines removal.range.event))
      each removal c = go (r.removals.sound removal c)
        where
          go : IsRemoval h removal → IsPlaceOf removal.range (line_place (slice_get lines removal.range.event))
          go i = inside removal.range.low (line_place (slice_get lines removal.range.event)) removal.range.high
              (λ n. not_outside removal.range.event i.behind.event i.behind.first.known (Removes removal) (removal_word_is h removal i.behind.event r c i.behind.first.known) n)

  cached : (number : ℕ) (event : Event) (decided : Decision) → IsEvent h number event → event.decision ≡ Some decided → AreCachePlaces h event (line_places (slice_get lines number))
  cached number event decided known e = record {
    of_roles = at places.roles (λ n c. n c.of_roles);
    of_cluster_roles = at places.cluster_roles (λ n c. n c.of_cluster_roles);
    of_bindings = at places.bindings (λ n c. n c.of_bindings);
    of_cluster_bindings = at places.cluster_bindings (λ n c. n c.of_cluster_bindings);
  }
    where
      places : Places
      places = line_places (slice_get lines number)

      not_so : (AreCachePlaces h event (line_places (slice_get lines number)) → ⊥) → ⊥
      not_so n = f.fitting.inside event.line (record { number = number; event = event; known = known; of_line = refl; outside = inr (decided, e, n) })

      at : (place : ℕ) → ((IsCachePlace h event place → ⊥) → AreCachePlaces h event (line_places (slice_get lines number)) → ⊥) → IsCachePlace h event place
      at place g = inside (decision_low h event) place (decision_high h event) (λ n. not_so (g n))

  placed' : IsPlacedUpTo h (length h.order) (placement_of h lines)
  placed' = record {
    chosen = chosen;
    sound = λ number event j known. record {
      level = not_true event.other_level (λ e. standing number event known (by_level refl e));
      stage = not_true event.omitted_stage (λ e. standing number event known (by_stage refl e));
      no_stray = λ e. standing number event known (by_stray refl e);
    };
    windows = λ number event j known w. inside (low_end h event) (line_place (slice_get lines number)) (high_end h event) (λ n. not_outside number event known At w n);
    decisions = λ number event decided j known e. record {
      inside = cached number event decided known e;
      right = not_false (h.decides number (line_places (slice_get lines number)))
          (λ n. f.decided event.line (record { number = number; event = event; decided = decided; known = known; of_line = refl; judged = e; wrong = n }));
    };
  }
    where
      standing : (number : ℕ) (event : Event) → IsEvent h number event → {code : Reason} → HasStandingCode h number event code → ⊥
      standing number event known {code} s = f.fitting.standing event.line (code, record { number = number; event = event; known = known; of_line = refl; has = s })

  pub faultless_is : IsVerified h lines
  faultless_is = record {
    alike = f.fitting.alike;
    inside = f.fitting.inside;
    run = record {
      placed = placed';
      steps = f.allowed.steps;
      are = f.allowed.are;
      runs = runs_weaker h EachStep (IsOfFirst h (length h.order)) (snapshot_map h) f.allowed.steps (λ s c k. tt) f.allowed.runs;
    };
  }
