-- Exact claims and what settles them give the outcome.
use Rattle.std.proofs.Common.{◌≡◌, ℕ, zero, suc, ◌<◌, ◌≤◌, ◌+◌, ◌⊎◌, ◌↔◌, List, [], ◌∷◌, length, take, slice_get, Option, Some, None, IfSome, Contains, inl, inr, refl, sym, ◌∙◌, subst, arith, add-one}
use Rattle.std.proofs.lemmas.Option.{same_Some, MatchOption-at_some, slice_get_within}
use Rattle.base_types.specs.Choices.{IsChoice, MeetsAll}
use Rattle.base_types.specs.Reasons.{code_number}
use Rattle.base_types.specs.Settlement.{MeetsBounds, Explains, ExplainsAll, IsLeastChoice, LeavesNoChoice, HasCode as HasClaimCode, HasLeastCode, BreaksFirst}
use Rattle.base_types.specs.declared.verdict.claim.Claim.{Claim}
use Rattle.base_types.specs.declared.verdict.claim.Reason.{Reason}
use Rattle.history_model.proofs.CodeLemmas.{right_no_code}
use Rattle.history_model.proofs.Global.{run_is_right, right_has_run, global_is}
use Rattle.history_model.proofs.Members.{not_in_none, here, there, in_cons, all_at, all_from, at_in}
use Rattle.history_model.proofs.WordLemmas.{is_at}
use Rattle.history_model.specs.Codes.{HasCode, answer, NeverHolds, IsChoiceUpTo, IsCandidate, IsLeastCandidate}
use Rattle.history_model.specs.Events.{Event}
use Rattle.history_model.specs.Exact.{SometimesHolds, IsFailure, AreExactBounds, IsExactClaim, AreExact}
use Rattle.history_model.specs.Histories.{History, IsEvent, ranges}
use Rattle.history_model.specs.Judging.{IsJudged}
use Rattle.history_model.specs.Local.{IsFixedRight, AnswerHolds, IsRightUnder, AreRightUpTo}
use Rattle.history_model.specs.Outcomes.{IsLeastOfRuns, IsEarliest}
use Rattle.history_model.specs.Readable.{IsReadable}
use Rattle.history_model.specs.Runs.{Placement, IsRunUpTo}
use Rattle.history_model.specs.Words.{At, word}

pub get_within : {X : Type 0} (xs : List X) (n : ℕ) → n < length xs → (x : X) × (slice_get xs n ≡ Some x)
get_within [] n l = absurd (omega (arith, l))
get_within (x ∷ xs) zero l = (x, refl)
get_within (x ∷ xs) (suc n) l = get_within xs n (omega (arith, l))

pub take_next : (xs : List ℕ) (n x y : ℕ) → slice_get xs n ≡ Some x → Contains (take (suc n) xs) y → Contains (take n xs) y ⊎ (y ≡ x)
take_next [] n x y e c = absurd (cc e)
take_next (z ∷ zs) zero x y e c = go (in_cons z [] y c)
  where
    go : (z ≡ y) ⊎ Contains [] y → Contains [] y ⊎ (y ≡ x)
    go (inl p) = inr (sym p ∙ same_Some z x e)
    go (inr m) = absurd (not_in_none m)
take_next (z ∷ zs) (suc n) x y e c = go (take_next zs n x y e) (in_cons z (take (suc n) zs) y c)
  where
    go : (Contains (take (suc n) zs) y → Contains (take n zs) y ⊎ (y ≡ x)) → (z ≡ y) ⊎ Contains (take (suc n) zs) y → Contains (z ∷ take n zs) y ⊎ (y ≡ x)
    go more (inl p) = inl (subst (λ w. Contains (z ∷ take n zs) w) p (here z (take n zs)))
    go more (inr m) = at (more m)
      where
        at : Contains (take n zs) y ⊎ (y ≡ x) → Contains (z ∷ take n zs) y ⊎ (y ≡ x)
        at (inl d) = inl (there z y (take n zs) d)
        at (inr q) = inr q

pub next_in : (xs : List ℕ) (n x : ℕ) → slice_get xs n ≡ Some x → Contains (take (suc n) xs) x
next_in [] n x e = absurd (cc e)
next_in (z ∷ zs) zero x e = subst (λ w. Contains (z ∷ []) w) (same_Some z x e) (here z [])
next_in (z ∷ zs) (suc n) x e = there z x (take (suc n) zs) (next_in zs n x e)

pub take_more_in : (xs : List ℕ) (m n y : ℕ) → m ≤ n → Contains (take m xs) y → Contains (take n xs) y
take_more_in xs zero n y l c = absurd (not_in_none c)
take_more_in [] (suc m) n y l c = absurd (not_in_none c)
take_more_in (z ∷ zs) (suc m) zero y l c = absurd (omega (arith, l))
take_more_in (z ∷ zs) (suc m) (suc n) y l c = go (take_more_in zs m n y (omega (arith, l))) (in_cons z (take m zs) y c)
  where
    go : (Contains (take m zs) y → Contains (take n zs) y) → (z ≡ y) ⊎ Contains (take m zs) y → Contains (z ∷ take n zs) y
    go more (inl p) = subst (λ w. Contains (z ∷ take n zs) w) p (here z (take n zs))
    go more (inr d) = there z y (take n zs) (more d)

pub take_whole : (xs : List ℕ) (y : ℕ) → Contains xs y → Contains (take (length xs) xs) y
take_whole [] y c = absurd (not_in_none c)
take_whole (z ∷ zs) y c = go (take_whole zs y) (in_cons z zs y c)
  where
    go : (Contains zs y → Contains (take (length zs) zs) y) → (z ≡ y) ⊎ Contains zs y → Contains (z ∷ take (length zs) zs) y
    go more (inl p) = subst (λ w. Contains (z ∷ take (length zs) zs) w) p (here z (take (length zs) zs))
    go more (inr d) = there z y (take (length zs) zs) (more d)

-- an event is judged where some number of it is
pub event_of : (h : History) (number : ℕ) → IsReadable h → Contains h.order number → (event : Event) × IsEvent h number event
event_of h number r c = get_within h.events number (r.order.known number c)

if_some : {X : Type 0} (o : Option X) (P : X → Type 0) → ((x : X) → o ≡ Some x → P x) → IfSome o P
if_some None P f = tt
if_some (Some x) P f = f x refl

-- an answer that never holds is one that is placed
never_at : (h : History) (number : ℕ) (event : Event) (choice : List ℕ) → IsChoice (ranges h) choice → NeverHolds h number event → word h number event ≡ At
never_at h number event choice chosen never = go (is_at (word h number event))
  where
    go : (word h number event ≡ At) ⊎ (word h number event ≡ At → ⊥) → word h number event ≡ At
    go (inl e) = e
    go (inr n) = absurd (never choice chosen (λ e. absurd (n e)))

module _ (h : History) (claims : List Claim) (r : IsReadable h) (exact : AreExact h claims) where
  claim_of : (number : ℕ) (event : Event) → IsEvent h number event → (claim : Claim) × (slice_get claims number ≡ Some claim)
  claim_of number event known = get_within claims number (omega (arith, slice_get_within h.events number event known, exact.all))

  event_at : (number : ℕ) (claim : Claim) → slice_get claims number ≡ Some claim → (event : Event) × IsEvent h number event
  event_at number claim e = get_within h.events number (omega (arith, slice_get_within claims number claim e, exact.all))

  -- a claim without failure whose bounds are met
  claim_right : (choice : List ℕ) (number : ℕ) (event : Event) (claim : Claim) → IsChoice (ranges h) choice → IsExactClaim h number event claim → claim.fails ≡ None
      → MeetsAll choice claim.bounds → IsRightUnder h choice number event
  claim_right choice number event claim chosen e f met = go (subst (λ o. IsFailure h number event o) f e.failure) e.exact
    where
      go : IsFixedRight h number event × SometimesHolds h number event → AreExactBounds h number event claim.bounds → IsRightUnder h choice number event
      go (fixed, s) (inl b) = record { fixed = fixed; answer = (b.1 choice chosen).1 met }
      go (fixed, s) (inr b) = absurd (b.0 s.0 s.1 s.2)

  -- and back
  meets_by : (choice : List ℕ) (number : ℕ) (event : Event) (claim : Claim) → IsChoice (ranges h) choice → IsExactClaim h number event claim → AnswerHolds h choice number event
      → MeetsAll choice claim.bounds
  meets_by choice number event claim chosen e a = go e.exact
    where
      go : AreExactBounds h number event claim.bounds → MeetsAll choice claim.bounds
      go (inl b) = (b.1 choice chosen).0 a
      go (inr b) = absurd (b.0 choice chosen a)

  unfailing : (choice : List ℕ) (number : ℕ) (event : Event) (o : Option Reason) → IsChoice (ranges h) choice → IsFailure h number event o → IsRightUnder h choice number event → o ≡ None
  unfailing choice number event None chosen f right = refl
  unfailing choice number event (Some code) chosen f right = absurd (right_no_code h choice number event code chosen right f.0)

  explains_right : (n : ℕ) (choice : List ℕ) → Explains (ranges h) claims (take n h.order) choice → AreRightUpTo h n choice
  explains_right n choice x = λ number event j known. go number event j known (claim_of number event known)
    where
      go : (number : ℕ) (event : Event) → IsJudged h n number → IsEvent h number event → (claim : Claim) × (slice_get claims number ≡ Some claim) → IsRightUnder h choice number event
      go number event j known (claim, e) = claim_right choice number event claim x.meets.chosen (exact.each number event claim known e)
          (MatchOption-at_some (Unit {0}) (λ c. c.fails ≡ None) claim e (all_at (λ y. IfSome (slice_get claims y) (λ c. c.fails ≡ None)) (take n h.order) number x.sound j))
          (MatchOption-at_some (Unit {0}) (λ c. MeetsAll choice c.bounds) claim e (all_at (λ y. IfSome (slice_get claims y) (λ c. MeetsAll choice c.bounds)) (take n h.order) number x.meets.met j))

  right_explains : (n : ℕ) (choice : List ℕ) → IsChoice (ranges h) choice → AreRightUpTo h n choice → Explains (ranges h) claims (take n h.order) choice
  right_explains n choice chosen right = record {
    sound = all_from (λ y. IfSome (slice_get claims y) (λ c. c.fails ≡ None)) (take n h.order) (λ y c. if_some (slice_get claims y) (λ k. k.fails ≡ None) (λ k e. sound y c k e (event_at y k e)));
    meets = record {
      chosen = chosen;
      met = all_from (λ y. IfSome (slice_get claims y) (λ c. MeetsAll choice c.bounds)) (take n h.order) (λ y c. if_some (slice_get claims y) (λ k. MeetsAll choice k.bounds) (λ k e. met y c k e (event_at y k e)));
    };
  }
    where
      sound : (y : ℕ) → IsJudged h n y → (k : Claim) → slice_get claims y ≡ Some k → (event : Event) × IsEvent h y event → k.fails ≡ None
      sound y c k e (event, known) = unfailing choice y event k.fails chosen (exact.each y event k known e).failure (right y event c known)

      met : (y : ℕ) → IsJudged h n y → (k : Claim) → slice_get claims y ≡ Some k → (event : Event) × IsEvent h y event → MeetsAll choice k.bounds
      met y c k e (event, known) = meets_by choice y event k chosen (exact.each y event k known e) (right y event c known).answer

  all_explains_right : (choice : List ℕ) → ExplainsAll (ranges h) claims choice → AreRightUpTo h (length h.order) choice
  all_explains_right choice x = λ number event j known. go number event known (claim_of number event known)
    where
      go : (number : ℕ) (event : Event) → IsEvent h number event → (claim : Claim) × (slice_get claims number ≡ Some claim) → IsRightUnder h choice number event
      go number event known (claim, e) = claim_right choice number event claim x.chosen (exact.each number event claim known e)
          (all_at (λ c. c.fails ≡ None) claims claim x.sound (at_in claims number claim e)) (all_at (λ c. MeetsAll choice c.bounds) claims claim x.met (at_in claims number claim e))

  right_all_explains : (choice : List ℕ) → IsChoice (ranges h) choice → AreRightUpTo h (length h.order) choice → ExplainsAll (ranges h) claims choice
  right_all_explains choice chosen right = record {
    chosen = chosen;
    sound = all_from (λ c. c.fails ≡ None) claims (λ k c. sound k (Rattle.history_model.proofs.Members.in_at claims k c));
    met = all_from (λ c. MeetsAll choice c.bounds) claims (λ k c. met k (Rattle.history_model.proofs.Members.in_at claims k c));
  }
    where
      judged : (number : ℕ) (event : Event) → IsEvent h number event → IsJudged h (length h.order) number
      judged number event known = take_whole h.order number (r.order.full number (slice_get_within h.events number event known))

      sound : (k : Claim) → (i : ℕ) × (slice_get claims i ≡ Some k) → k.fails ≡ None
      sound k (i, e) = at (event_at i k e)
        where
          at : (event : Event) × IsEvent h i event → k.fails ≡ None
          at (event, known) = unfailing choice i event k.fails chosen (exact.each i event k known e).failure (right i event (judged i event known) known)

      met : (k : Claim) → (i : ℕ) × (slice_get claims i ≡ Some k) → MeetsAll choice k.bounds
      met k (i, e) = at (event_at i k e)
        where
          at : (event : Event) × IsEvent h i event → MeetsAll choice k.bounds
          at (event, known) = meets_by choice i event k chosen (exact.each i event k known e) (right i event (judged i event known) known).answer

  -- the least choice that settles the claims is the least of the runs
  pub fits_is : (choice : List ℕ) → IsLeastChoice (ranges h) claims choice → IsLeastOfRuns h choice
  fits_is choice l = go (right_has_run h (length h.order) choice r l.explains.chosen (all_explains_right choice l.explains))
    where
      go : (p : Placement) × IsRunUpTo h (length h.order) p × (p.choice ≡ choice) → IsLeastOfRuns h choice
      go (p, run, e) = record {
        p = p;
        run = run;
        chosen = e;
        least = λ other o. l.least other.choice (right_all_explains other.choice o.placed.chosen (run_is_right h (length h.order) other r o));
      }

  module _ (before number : ℕ) (event : Event) (reason : Reason) (known : IsEvent h number event) (at : slice_get h.order before ≡ Some number)
      (claim : Claim) (claimed : slice_get claims number ≡ Some claim) (earlier : (choice : List ℕ) × Explains (ranges h) claims (take before h.order) choice)
      (code : HasLeastCode claim (LeavesNoChoice (ranges h) claims (take (before + 1) h.order)) reason) where
    is_exact : IsExactClaim h number event claim
    is_exact = exact.each number event claim known claimed

    -- a choice that explains the earlier events and makes the answer right meets the bounds of all
    meets_next : (choice : List ℕ) → IsChoiceUpTo h before choice → AnswerHolds h choice number event → MeetsBounds (ranges h) claims (take (before + 1) h.order) choice
    meets_next choice (p, run, e) a = record { chosen = chosen; met = all_from P (take (before + 1) h.order) (λ y c. each y (take_next h.order before number y at (rw add-one at c))) }
      where
        P : ℕ → Type 0
        P y = IfSome (slice_get claims y) (λ c. MeetsAll choice c.bounds)

        chosen : IsChoice (ranges h) choice
        chosen = subst (λ z. IsChoice (ranges h) z) e run.placed.chosen

        right : AreRightUpTo h before choice
        right = subst (λ z. AreRightUpTo h before z) e (run_is_right h before p r run)

        each : (y : ℕ) → Contains (take before h.order) y ⊎ (y ≡ number) → IfSome (slice_get claims y) (λ c. MeetsAll choice c.bounds)
        each y (inl c) = all_at (λ z. IfSome (slice_get claims z) (λ k. MeetsAll choice k.bounds)) (take before h.order) y (right_explains before choice chosen right).meets.met c
        each y (inr q) = subst (λ z. IfSome (slice_get claims z) (λ c. MeetsAll choice c.bounds)) (sym q)
            (if_some (slice_get claims number) (λ c. MeetsAll choice c.bounds) (λ k f. meets_by choice number event k chosen (exact.each number event k known f) a))

    -- and back
    next_holds : (choice : List ℕ) → SometimesHolds h number event → ((other : List ℕ) → IsChoice (ranges h) other → AnswerHolds h other number event ↔ MeetsAll other claim.bounds)
        → MeetsBounds (ranges h) claims (take (before + 1) h.order) choice → IsChoiceUpTo h before choice × AnswerHolds h choice number event
    next_holds choice s iff m = (
      right_has_run h before choice r m.chosen (explains_right before choice x),
      (iff choice m.chosen).1
          (MatchOption-at_some (Unit {0}) (λ c. MeetsAll choice c.bounds) claim claimed
          (all_at (λ y. IfSome (slice_get claims y) (λ c. MeetsAll choice c.bounds)) (take (before + 1) h.order) number m.met (rw add-one (next_in h.order before number at)))),
    )
      where
        x : Explains (ranges h) claims (take before h.order) choice
        x = record {
          sound = earlier.1.sound;
          meets = record {
            chosen = m.chosen;
            met = all_from (λ y. IfSome (slice_get claims y) (λ c. MeetsAll choice c.bounds)) (take before h.order)
                (λ y c. all_at (λ z. IfSome (slice_get claims z) (λ k. MeetsAll choice k.bounds)) (take (before + 1) h.order) y m.met (take_more_in h.order before (before + 1) y (omega arith) c));
          };
        }

    failure_code : (o : Option Reason) → claim.fails ≡ o → (other : Reason) → HasCode h number event other → code_number reason ≤ code_number other
    failure_code None e other c = go (subst (λ z. IsFailure h number event z) e is_exact.failure)
      where
        go : IsFixedRight h number event × SometimesHolds h number event → code_number reason ≤ code_number other
        go (fixed, s) = absurd (right_no_code h s.0 number event other s.1 (record { fixed = fixed; answer = s.2 }) c)
    failure_code (Some least) e other c = go (subst (λ z. IsFailure h number event z) e is_exact.failure)
      where
        go : HasCode h number event least × ((x : Reason) → HasCode h number event x → code_number least ≤ code_number x) → code_number reason ≤ code_number other
        go (has, l) = omega (arith, l other c, code.least least (inl e))

    candidate_is : IsLeastCandidate h before number event reason
    candidate_is = record { candidate = of code.has; least = least }
      where
        of : HasClaimCode claim (LeavesNoChoice (ranges h) claims (take (before + 1) h.order)) reason → IsCandidate h before number event reason
        of (inl f) = inl (subst (λ z. IsFailure h number event z) f is_exact.failure).0
        of (inr (e, none)) = inr (e ∙ is_exact.of_answer, λ choice up a. none choice (meets_next choice up a))

        least : (other : Reason) → IsCandidate h before number event other → code_number reason ≤ code_number other
        least other (inl c) = failure_code claim.fails refl other c
        least other (inr (e, none)) = by is_exact.exact
          where
            by : AreExactBounds h number event claim.bounds → code_number reason ≤ code_number other
            by (inl (s, iff)) = code.least other (inr (e ∙ sym is_exact.of_answer, λ choice m. go choice (next_holds choice s iff m)))
              where
                go : (choice : List ℕ) → IsChoiceUpTo h before choice × AnswerHolds h choice number event → ⊥
                go choice (up, a) = none choice up a
            by (inr (never, b)) = failure_code claim.fails refl other (answer e (never_at h number event earlier.0 earlier.1.meets.chosen never) never)

  -- the event at which the claims break is the earliest that isn't explained
  pub breaks_is : (number : ℕ) (event : Event) (reason : Reason) → IsEvent h number event → BreaksFirst (ranges h) claims h.order number reason → IsEarliest h number event reason
  breaks_is number event reason known b = go (claim_of number event known)
    where
      go : (claim : Claim) × (slice_get claims number ≡ Some claim) → IsEarliest h number event reason
      go (claim, e) = record {
        known = known;
        before = b.before;
        found = b.found;
        explained = (global_is h b.before r).1 (b.earlier.0, b.earlier.1.meets.chosen, explains_right b.before b.earlier.0 b.earlier.1);
        unexplained = λ x. at ((global_is h (b.before + 1) r).0 x);
        least = candidate_is b.before number event reason known b.found claim e b.earlier
            (MatchOption-at_some (Unit {0}) (λ c. HasLeastCode c (LeavesNoChoice (ranges h) claims (take (b.before + 1) h.order)) reason) claim e b.code);
      }
        where
          at : (choice : List ℕ) × IsChoice (ranges h) choice × AreRightUpTo h (b.before + 1) choice → ⊥
          at (choice, chosen, right) = b.breaks choice (right_explains (b.before + 1) choice chosen right)
