-- The turns of the events, once they are sorted, are the order of judgement.
use Rattle.std.proofs.Common.{◌≡◌, ◌≢◌, ℕ, ℤ, zero, suc, ◌+◌, ◌<◌, ◌<ℤ◌, ◌⊎◌, inl, inr, true, false, eqb, List, [], ◌∷◌, length, get_or, map, Option, Some, None, slice_get, AllPairs, Contains, refl, sym, ap, ◌∙◌, subst, true≢false, arith}
use Rattle.std.specs.Cmp.{IsStrictWeakOrder, int_cmp_is, int_cmp_total, nat_cmp_total, bool_cmp_total, nat_eq_equiv}
use Rattle.std.specs.List.Sorted.{IsPermutation, IsSorted}
use Rattle.std.specs.Option.{option_map}
use Rattle.std.specs.Ordering.{ordering_then, is_lt, int_cmp, nat_cmp}
use Rattle.std.specs.declared.cmp.Ordering.TheVariants.{Less, Equal}
use Rattle.std.proofs.lemmas.Bool.Decides.{Decides-eqb}
use Rattle.std.proofs.lemmas.Cmp.{on_total, then_total}
use Rattle.std.proofs.lemmas.List.{length-map}
use Rattle.std.proofs.lemmas.List.Elements.{Contains-get_or}
use Rattle.std.proofs.lemmas.List.Sorted.{Contains-permutation, IsPermutation-map, IsPermutation-sym, ranks_by, sorted_far}
use Rattle.std.proofs.lemmas.Map.Keys.{IsDistinct-IsPermutation}
use Rattle.std.proofs.lemmas.Map.Made.{AllPairs-from_IsDistinct, IsDistinct-from_AllPairs}
use Rattle.std.proofs.lemmas.Option.{same_Some, slice_get_within}
use Rattle.base_types.proofs.Orderings.{nat_less, then_less, then_next}
use Rattle.history_model.proofs.JudgingLemmas.{judged_cases}
use Rattle.history_model.proofs.Members.{at_in, in_at, at_apart}
use Rattle.history_model.specs.Events.{Event, is_checkpoint, is_checkpoint_reading}
use Rattle.history_model.specs.Histories.{History, IsEvent}
use Rattle.history_model.specs.Judging.{PrecedesByKind, IsJudgedBefore, IsOrder}
use Rattle.write_groups.proofs.Belonging.{IsLogged, logged_from}
use Rattle.write_groups.proofs.Lists.{map_from, map_has, pairs_map, pairs_unmap}
use Rattle.write_groups.specs.declared.event.LogEvent.{LogEvent}
use Rattle.write_groups.specs.declared.event.Reading.{Reading}
use Rattle.write_groups.specs.declared.event.Reading.TheVariants.{MostRecent, AnyVersion, NotOlderThan, Exactly, Checkpoint}
use Rattle.write_groups.specs.declared.order.Turn.{Turn}
use Rattle.write_groups.specs.Modelled.{HasEvents, reading_of, event_of}
use Rattle.write_groups.specs.Ordered.{turn_in_log, turn_behind, turn_as, turn_of, turns_of, turn_cmp}

-- whether an event is a checkpoint, and its turn
kind : (number : ℕ) (event : LogEvent) → ((is_checkpoint (event_of event) ≡ false) × (turn_of number event ≡ turn_in_log number event)) ⊎ ((is_checkpoint (event_of event) ≡ true) × (turn_of number event ≡ turn_behind number event))
kind number event = go event.reading refl
  where
    go : (r : Reading) → event.reading ≡ r → ((is_checkpoint (event_of event) ≡ false) × (turn_of number event ≡ turn_in_log number event)) ⊎ ((is_checkpoint (event_of event) ≡ true) × (turn_of number event ≡ turn_behind number event))
    go MostRecent e = inl (ap (λ r. is_checkpoint_reading (reading_of r)) e, ap (turn_as number event) e)
    go AnyVersion e = inl (ap (λ r. is_checkpoint_reading (reading_of r)) e, ap (turn_as number event) e)
    go (NotOlderThan revision) e = inl (ap (λ r. is_checkpoint_reading (reading_of r)) e, ap (turn_as number event) e)
    go (Exactly revision) e = inl (ap (λ r. is_checkpoint_reading (reading_of r)) e, ap (turn_as number event) e)
    go (Checkpoint revision) e = inr (ap (λ r. is_checkpoint_reading (reading_of r)) e, ap (turn_as number event) e)

turn_number : (number : ℕ) (event : LogEvent) → (turn_of number event).number ≡ number
turn_number number event = go (kind number event)
  where
    go : ((is_checkpoint (event_of event) ≡ false) × (turn_of number event ≡ turn_in_log number event)) ⊎ ((is_checkpoint (event_of event) ≡ true) × (turn_of number event ≡ turn_behind number event)) → (turn_of number event).number ≡ number
    go (inl k) = ap (λ (t : Turn). t.number) k.1
    go (inr k) = ap (λ (t : Turn). t.number) k.1

less_in_log : (x y : ℤ) (a b n m : ℕ) → (x <ℤ y) ⊎ ((x ≡ y) × (a < b)) → is_lt (ordering_then (int_cmp x y) (ordering_then (nat_cmp a b) (nat_cmp n m))) ≡ true
less_in_log x y a b n m (inl l) = then_less (int_cmp x y) (ordering_then (nat_cmp a b) (nat_cmp n m)) (sym (int_cmp_is x y Less l))
less_in_log x y a b n m (inr l) = then_next (int_cmp x y) (ordering_then (nat_cmp a b) (nat_cmp n m)) (sym (int_cmp_is x y Equal l.0)) (then_less (nat_cmp a b) (nat_cmp n m) (nat_less a b l.1))

-- an event that is judged before another has the lesser turn
judged_less : (n m : ℕ) (a b : LogEvent) → IsJudgedBefore (event_of a) (event_of b) → is_lt (turn_cmp (turn_of n a) (turn_of m b)) ≡ true
judged_less n m a b l = go (kind n a) (kind m b)
  where
    go : ((is_checkpoint (event_of a) ≡ false) × (turn_of n a ≡ turn_in_log n a)) ⊎ ((is_checkpoint (event_of a) ≡ true) × (turn_of n a ≡ turn_behind n a))
        → ((is_checkpoint (event_of b) ≡ false) × (turn_of m b ≡ turn_in_log m b)) ⊎ ((is_checkpoint (event_of b) ≡ true) × (turn_of m b ≡ turn_behind m b))
        → is_lt (turn_cmp (turn_of n a) (turn_of m b)) ≡ true
    go (inl k) (inl j) = rw (k.1, j.1) (less_in_log a.hi.0 b.hi.0 a.line b.line n m (let h : PrecedesByKind false false (event_of a) (event_of b) = rw (k.0, j.0) at l in h))
    go (inl k) (inr j) = rw (k.1, j.1) refl
    go (inr k) (inl j) = absurd (let h : PrecedesByKind true false (event_of a) (event_of b) = rw (k.0, j.0) at l in h)
    go (inr k) (inr j) = rw (k.1, j.1) (then_less (nat_cmp a.line b.line) (nat_cmp n m) (nat_less a.line b.line (let h : PrecedesByKind true true (event_of a) (event_of b) = rw (k.0, j.0) at l in h)))

nothing : {X : Type 0} (xs : List X) (i : ℕ) → i < length xs → slice_get xs i ≡ None → ⊥
nothing [] i l e = omega arith
nothing (x ∷ xs) zero l e = cc e
nothing (x ∷ xs) (suc i) l e = nothing xs i (omega arith) e

-- the turns by their places
turn_at : (n : ℕ) (events : List LogEvent) (k : ℕ) → slice_get (turns_of n events) k ≡ option_map (turn_of (n + k)) (slice_get events k)
turn_at n [] k = refl
turn_at n (e ∷ es) zero = ap (λ i. Some (turn_of i e)) (let same : n ≡ n + 0 = omega arith in same)
turn_at n (e ∷ es) (suc k) = turn_at (n + 1) es k ∙ ap (λ i. option_map (turn_of i) (slice_get es k)) (let same : n + 1 + k ≡ n + suc k = omega arith in same)

number_at : (n : ℕ) (events : List LogEvent) (i : ℕ) (d : Turn) → i < length (turns_of n events) → (get_or (turns_of n events) i d).number ≡ n + i
number_at n [] i d l = absurd (omega arith)
number_at n (e ∷ es) zero d l = omega (arith, turn_number n e)
number_at n (e ∷ es) (suc i) d l = omega (arith, number_at (n + 1) es i d (omega arith))

pub record IsTurn (events : List LogEvent) (turn : Turn) : Type 0 where
  pub event : LogEvent
  pub at : slice_get events turn.number ≡ Some event
  pub is : turn ≡ turn_of turn.number event

turn_is : (events : List LogEvent) (turn : Turn) → Contains (turns_of 0 events) turn → IsTurn events turn
turn_is events turn c = go (in_at (turns_of 0 events) turn c)
  where
    go : (i : ℕ) × (slice_get (turns_of 0 events) i ≡ Some turn) → IsTurn events turn
    go (i, e) = by (slice_get events i) refl
      where
        by : (o : Option LogEvent) → slice_get events i ≡ o → IsTurn events turn
        by None p = absurd (let none : None ≡ Some turn = sym (ap (option_map (turn_of (0 + i))) p) ∙ sym (turn_at 0 events i) ∙ e in cc none)
        by (Some event) p = record { event = event; at = ap (slice_get events) (sym same) ∙ p; is = whole ∙ ap (λ n. turn_of n event) (let zero_plus : 0 + i ≡ turn.number = omega (arith, same) in zero_plus) }
          where
            whole : turn ≡ turn_of (0 + i) event
            whole = sym (same_Some (turn_of (0 + i) event) turn (sym (ap (option_map (turn_of (0 + i))) p) ∙ sym (turn_at 0 events i) ∙ e))

            same : i ≡ turn.number
            same = let n = turn_number (0 + i) event in let t : turn.number ≡ (turn_of (0 + i) event).number = ap (λ (x : Turn). x.number) whole in omega (arith, n, t)

turn_in : (events : List LogEvent) (number : ℕ) (event : LogEvent) → slice_get events number ≡ Some event → Contains (turns_of 0 events) (turn_of number event)
turn_in events number event e = at_in (turns_of 0 events) number (turn_of number event)
    (turn_at 0 events number ∙ ap (option_map (turn_of (0 + number))) e ∙ ap (λ n. Some (turn_of n event)) (let zero_plus : 0 + number ≡ number = omega arith in zero_plus))

-- numbers that differ keep doing so in another order
pub apart_moved : {X : Type 0} (n : X → ℕ) (xs ys : List X) → IsPermutation xs ys → AllPairs (λ a b. n a ≢ n b) xs → AllPairs (λ a b. n a ≢ n b) ys
apart_moved {X} n xs ys same apart = pairs_unmap n (λ a b. a ≢ b) ys
    (AllPairs-from_IsDistinct Decides-eqb (map n ys)
    (IsDistinct-IsPermutation eqb nat_eq_equiv.symm (map n xs) (map n ys) (IsPermutation-map n xs ys same) (IsDistinct-from_AllPairs Decides-eqb (map n xs) (pairs_map n (λ a b. a ≢ b) xs apart))))

module _ (events : List LogEvent) (order : List Turn) (same : IsPermutation (turns_of 0 events) order) (sorted : IsSorted turn_cmp order) (lines : AllPairs (λ a b. a.line < b.line) events)
    (h : History) (has : HasEvents events h) (order_is : h.order ≡ map (λ turn. turn.number) order) where
  in_turns : (turn : Turn) → Contains order turn → IsTurn events turn
  in_turns turn c = turn_is events turn (Contains-permutation order (turns_of 0 events) turn (IsPermutation-sym (turns_of 0 events) order same) c)

  long : length h.events ≡ length events
  long = ap length has ∙ length-map events event_of

  known : (number : ℕ) → Contains h.order number → number < length h.events
  known number c = go (map_from (λ (turn : Turn). turn.number) order number (subst (λ l. Contains l number) order_is c))
    where
      go : (turn : Turn) × Contains order turn × (turn.number ≡ number) → number < length h.events
      go (turn, k, e) = let t = in_turns turn k in let within : turn.number < length events = slice_get_within events turn.number t.event t.at in omega (arith, long, within, e)

  full : (number : ℕ) → number < length h.events → Contains h.order number
  full number l = go (slice_get events number) refl
    where
      go : (o : Option LogEvent) → slice_get events number ≡ o → Contains h.order number
      go None e = absurd (nothing events number (omega (arith, long)) e)
      go (Some event) e = subst (λ l. Contains l number) (sym order_is) (subst (λ n. Contains (map (λ (turn : Turn). turn.number) order) n) (turn_number number event)
          (map_has (λ (turn : Turn). turn.number) order (turn_of number event) (Contains-permutation (turns_of 0 events) order (turn_of number event) same (turn_in events number event e))))

  apart : AllPairs (λ (a b : Turn). a.number ≢ b.number) order
  apart = apart_moved (λ (turn : Turn). turn.number) (turns_of 0 events) order same
      (λ i j d l m e. let a = number_at 0 events i d (omega arith) in let b = number_at 0 events j d m in omega (arith, a, b, e))

  before : (a b : Turn) → IsTurn events a → IsTurn events b → a.number ≢ b.number → is_lt (turn_cmp b a) ≡ false → (x y : Event) → IsEvent h a.number x → IsEvent h b.number y → IsJudgedBefore x y
  before a b s t differ not x y u v = subst (λ z. IsJudgedBefore z y) (event_is a s x u) (subst (λ z. IsJudgedBefore (event_of s.event) z) (event_is b t y v) (go (judged_cases (event_of s.event) (event_of t.event))))
    where
      event_is : (turn : Turn) (w : IsTurn events turn) (z : Event) → IsEvent h turn.number z → event_of w.event ≡ z
      event_is turn w z k = by (logged_from events h turn.number z has k)
        where
          by : IsLogged events turn.number z → event_of w.event ≡ z
          by g = ap event_of (same_Some w.event g.logged (sym w.at ∙ g.at)) ∙ g.is

      go : IsJudgedBefore (event_of s.event) (event_of t.event) ⊎ IsJudgedBefore (event_of t.event) (event_of s.event) ⊎ ((event_of s.event).line ≡ (event_of t.event).line) → IsJudgedBefore (event_of s.event) (event_of t.event)
      go (inl l) = l
      go (inr (inl l)) = absurd (let less = judged_less b.number a.number t.event s.event l in
          let turns : is_lt (turn_cmp b a) ≡ true = subst (λ z. is_lt (turn_cmp z a) ≡ true) (sym t.is) (subst (λ z. is_lt (turn_cmp (turn_of b.number t.event) z) ≡ true) (sym s.is) less) in
          true≢false (sym turns ∙ not))
      go (inr (inr e)) = absurd (differ (at_apart (λ (z : LogEvent). z.line) events a.number b.number s.event t.event lines s.at t.at e))

  ranks : IsStrictWeakOrder (λ a b. is_lt (turn_cmp a b))
  ranks = ranks_by (then_total (on_total (λ (t : Turn). t.is_checkpoint) bool_cmp_total) (then_total (on_total (λ (t : Turn). t.hi.0) int_cmp_total) (then_total (on_total (λ (t : Turn). t.line) nat_cmp_total) (on_total (λ (t : Turn). t.number) nat_cmp_total)))) (λ t. t)

  judged : AllPairs (λ a b. (x y : Event) → IsEvent h a x → IsEvent h b y → IsJudgedBefore x y) h.order
  judged = subst (λ l. AllPairs (λ a b. (x y : Event) → IsEvent h a x → IsEvent h b y → IsJudgedBefore x y) l) (sym order_is)
      (pairs_map (λ (turn : Turn). turn.number) (λ a b. (x y : Event) → IsEvent h a x → IsEvent h b y → IsJudgedBefore x y) order
      (λ i j d l m. before (get_or order i d) (get_or order j d) (in_turns (get_or order i d) (Contains-get_or order i d (omega arith))) (in_turns (get_or order j d) (Contains-get_or order j d m)) (apart i j d l m)
      (sorted_far (λ a b. is_lt (turn_cmp a b)) ranks order sorted i j d (omega arith) m)))

  pub order_found : IsOrder h
  order_found = record { known = known; full = full; sorted = judged }
