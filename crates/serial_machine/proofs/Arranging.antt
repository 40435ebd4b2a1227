-- Rows that are sorted by their turns are in the machine's order.
use Rattle.std.proofs.Common.{◌≡◌, ◌≢◌, ℕ, ◌<◌, ◌⊎◌, ◌&&◌, eqb, Bool, true, false, List, [], ◌∷◌, map, length, get_or, Decides, AllPairs, Contains, inl, inr, refl, sym, ap, ◌∙◌, subst, arith, true≢false}
use Rattle.std.specs.Cmp.{IsStrictWeakOrder, nat_cmp_total, bool_cmp_total}
use Rattle.std.specs.List.Sorted.{IsPermutation, IsSortedByKey}
use Rattle.std.specs.Ordering.{ordering_then, is_lt, bool_cmp, nat_cmp}
use Rattle.std.specs.declared.cmp.Ordering.TheVariants.{Less, Equal}
use Rattle.std.proofs.lemmas.Bool.Decides.{Decides-and, Decides-eqb, Decides-like}
use Rattle.std.proofs.lemmas.Cmp.{on_total, then_total}
use Rattle.std.proofs.lemmas.List.Elements.{Contains-get_or}
use Rattle.std.proofs.lemmas.List.Sorted.{Contains-permutation, IsPermutation-map, IsPermutation-sym, ranks_by, sorted_far}
use Rattle.std.proofs.lemmas.Map.Keys.{IsDistinct-IsPermutation}
use Rattle.std.proofs.lemmas.Map.Made.{AllPairs-from_IsDistinct, IsDistinct-from_AllPairs}
use Rattle.base_types.specs.Placements.{RisesByLine}
use Rattle.base_types.specs.declared.verdict.placed.PlacedLine.{PlacedLine}
use Rattle.base_types.proofs.Orderings.{nat_equal, nat_less, then_less, then_next}
use Rattle.history_model.proofs.Members.{not_in_none, in_cons, all_at, all_from, pairs_head, pairs_tail}
use Rattle.history_model.proofs.StepsOf.{steps_of}
use Rattle.history_model.specs.Checking.{IsFitting}
use Rattle.history_model.specs.Histories.{History}
use Rattle.history_model.specs.Machine.{Step, Put, Remove, Reply, step_place, step_rank, step_line, Precedes, InOrder}
use Rattle.history_model.specs.Placed.{placement_of}
use Rattle.history_model.specs.Readable.{IsReadable}
use Rattle.history_model.specs.Runs.{Placement, IsStep, AreSteps}
use Rattle.write_groups.proofs.Lists.{map_from, map_has, pairs_map, pairs_unmap}
use Rattle.serial_machine.proofs.Placing.{placed_steps, steps_apart, steps_sound, steps_full}
use Rattle.serial_machine.specs.Ordered.{is_answer, step_turn, step_turn_cmp, row_step, IsInTurn, AreRowsOf, AreRows}
use Rattle.serial_machine.specs.declared.rows.Row.{Row}
use Rattle.serial_machine.specs.declared.rows.StepTurn.{StepTurn}

-- an order says how two tests lie
rank_less : (a b : Step) → step_rank a < step_rank b → bool_cmp (is_answer a) (is_answer b) ≡ Less
rank_less (Put v) (Put w) l = absurd (omega (arith, l))
rank_less (Put v) (Remove d) l = absurd (omega (arith, l))
rank_less (Put v) (Reply n e p) l = refl
rank_less (Remove c) (Put w) l = absurd (omega (arith, l))
rank_less (Remove c) (Remove d) l = absurd (omega (arith, l))
rank_less (Remove c) (Reply n e p) l = refl
rank_less (Reply m f q) (Put w) l = absurd (omega (arith, l))
rank_less (Reply m f q) (Remove d) l = absurd (omega (arith, l))
rank_less (Reply m f q) (Reply n e p) l = absurd (omega (arith, l))

rank_equal : (a b : Step) → step_rank a ≡ step_rank b → bool_cmp (is_answer a) (is_answer b) ≡ Equal
rank_equal (Put v) (Put w) e = refl
rank_equal (Put v) (Remove d) e = refl
rank_equal (Put v) (Reply n f p) e = absurd (omega (arith, e))
rank_equal (Remove c) (Put w) e = refl
rank_equal (Remove c) (Remove d) e = refl
rank_equal (Remove c) (Reply n f p) e = absurd (omega (arith, e))
rank_equal (Reply m g q) (Put w) e = absurd (omega (arith, e))
rank_equal (Reply m g q) (Remove d) e = absurd (omega (arith, e))
rank_equal (Reply m g q) (Reply n f p) e = refl

rank_same : (a b : Step) → is_answer a ≡ is_answer b → step_rank a ≡ step_rank b
rank_same (Put v) (Put w) e = refl
rank_same (Put v) (Remove d) e = refl
rank_same (Put v) (Reply n f p) e = absurd (true≢false (sym e))
rank_same (Remove c) (Put w) e = refl
rank_same (Remove c) (Remove d) e = refl
rank_same (Remove c) (Reply n f p) e = absurd (true≢false (sym e))
rank_same (Reply m g q) (Put w) e = absurd (true≢false e)
rank_same (Reply m g q) (Remove d) e = absurd (true≢false e)
rank_same (Reply m g q) (Reply n f p) e = refl

answer_same : (a b : Step) → step_rank a ≡ step_rank b → is_answer a ≡ is_answer b
answer_same (Put v) (Put w) e = refl
answer_same (Put v) (Remove d) e = refl
answer_same (Put v) (Reply n f p) e = absurd (omega (arith, e))
answer_same (Remove c) (Put w) e = refl
answer_same (Remove c) (Remove d) e = refl
answer_same (Remove c) (Reply n f p) e = absurd (omega (arith, e))
answer_same (Reply m g q) (Put w) e = absurd (omega (arith, e))
answer_same (Reply m g q) (Remove d) e = absurd (omega (arith, e))
answer_same (Reply m g q) (Reply n f p) e = refl

-- a step that precedes another has the lesser turn
turn_less : (h : History) (a b : Step) → Precedes h a b → is_lt (step_turn_cmp (step_turn h a) (step_turn h b)) ≡ true
turn_less h a b (inl l) = then_less (nat_cmp (step_place a) (step_place b)) (ordering_then (bool_cmp (is_answer a) (is_answer b)) (nat_cmp (step_line h a) (step_line h b))) (nat_less (step_place a) (step_place b) l)
turn_less h a b (inr (inl l)) = then_next (nat_cmp (step_place a) (step_place b)) (ordering_then (bool_cmp (is_answer a) (is_answer b)) (nat_cmp (step_line h a) (step_line h b))) (nat_equal (step_place a) (step_place b) l.0)
    (then_less (bool_cmp (is_answer a) (is_answer b)) (nat_cmp (step_line h a) (step_line h b)) (rank_less a b l.1))
turn_less h a b (inr (inr l)) = then_next (nat_cmp (step_place a) (step_place b)) (ordering_then (bool_cmp (is_answer a) (is_answer b)) (nat_cmp (step_line h a) (step_line h b))) (nat_equal (step_place a) (step_place b) l.0)
    (then_next (bool_cmp (is_answer a) (is_answer b)) (nat_cmp (step_line h a) (step_line h b)) (rank_equal a b l.1) (rw (nat_less (step_line h a) (step_line h b) l.2) refl))

below_cases : (a b c x y z : ℕ) → ((a < x) ⊎ ((a ≡ x) × (b < y)) ⊎ ((a ≡ x) × (b ≡ y) × (c < z))) ⊎ ((x < a) ⊎ ((x ≡ a) × (y < b)) ⊎ ((x ≡ a) × (y ≡ b) × (z < c))) ⊎ ((a ≡ x) × (b ≡ y) × (c ≡ z))
below_cases a b c x y z = grind arith

precedes_cases : (h : History) (a b : Step) → Precedes h a b ⊎ Precedes h b a ⊎ ((step_place a ≡ step_place b) × (step_rank a ≡ step_rank b) × (step_line h a ≡ step_line h b))
precedes_cases h a b = below_cases (step_place a) (step_rank a) (step_line h a) (step_place b) (step_rank b) (step_line h b)

not_below : (a b c x y z : ℕ) → a ≡ x → b ≡ y → c ≡ z → (a < x) ⊎ ((a ≡ x) × (b < y)) ⊎ ((a ≡ x) × (b ≡ y) × (c < z)) → ⊥
not_below a b c x y z e f g (inl l) = omega (arith, e, l)
not_below a b c x y z e f g (inr (inl l)) = omega (arith, f, l.1)
not_below a b c x y z e f g (inr (inr l)) = omega (arith, g, l.2)

-- where two steps of a placement tie, they are one
in_order : (h : History) (steps : List Step) (a b : Step) → InOrder h steps → Contains steps a → Contains steps b → (a ≡ b) ⊎ Precedes h a b ⊎ Precedes h b a
in_order h [] a b order c d = absurd (not_in_none c)
in_order h (s ∷ ss) a b order c d = go (in_cons s ss a c) (in_cons s ss b d) (λ m n. in_order h ss a b order.1 m n)
  where
    go : (s ≡ a) ⊎ Contains ss a → (s ≡ b) ⊎ Contains ss b → (Contains ss a → Contains ss b → (a ≡ b) ⊎ Precedes h a b ⊎ Precedes h b a) → (a ≡ b) ⊎ Precedes h a b ⊎ Precedes h b a
    go (inl e) (inl f) rest = inl (sym e ∙ f)
    go (inl e) (inr n) rest = inr (inl (subst (λ z. Precedes h z b) e (all_at (Precedes h s) ss b order.0 n)))
    go (inr m) (inl f) rest = inr (inr (subst (λ z. Precedes h z a) f (all_at (Precedes h s) ss a order.0 m)))
    go (inr m) (inr n) rest = rest m n

tied : (h : History) (n : ℕ) (p : Placement) → IsReadable h → (a b : Step) → IsStep h n p a → IsStep h n p b → step_turn h a ≡ step_turn h b → a ≡ b
tied h n p r a b x y e = at (steps_of h n p r)
  where
    place : step_place a ≡ step_place b
    place = ap (λ (t : StepTurn). t.place) e

    rank : step_rank a ≡ step_rank b
    rank = rank_same a b (ap (λ (t : StepTurn). t.is_answer) e)

    line : step_line h a ≡ step_line h b
    line = ap (λ (t : StepTurn). t.line) e

    at : (steps : List Step) × AreSteps h n p steps → a ≡ b
    at (steps, are) = go (in_order h steps a b are.order (are.full a x) (are.full b y))
      where
        go : (a ≡ b) ⊎ Precedes h a b ⊎ Precedes h b a → a ≡ b
        go (inl f) = f
        go (inr (inl l)) = absurd (not_below (step_place a) (step_rank a) (step_line h a) (step_place b) (step_rank b) (step_line h b) place rank line l)
        go (inr (inr l)) = absurd (not_below (step_place b) (step_rank b) (step_line h b) (step_place a) (step_rank a) (step_line h a) (sym place) (sym rank) (sym line) l)

-- turns are told apart
rank_of : Bool → ℕ
rank_of true = 1
rank_of false = 0

rank_tells : (a b : Bool) → rank_of a ≡ rank_of b → a ≡ b
unfolding rank_of
rank_tells true true e = refl
rank_tells true false e = absurd (omega (arith, e))
rank_tells false true e = absurd (omega (arith, e))
rank_tells false false e = refl

same_turn : StepTurn → StepTurn → Bool
same_turn a b = eqb a.place b.place && (eqb (rank_of a.is_answer) (rank_of b.is_answer) && eqb a.line b.line)

turn_decides : (a b : StepTurn) → Decides (same_turn a b) (a ≡ b)
unfolding same_turn
turn_decides a b = Decides-like (same_turn a b)
    (λ (e : (a.place ≡ b.place) × ((rank_of a.is_answer ≡ rank_of b.is_answer) × (a.line ≡ b.line))). whole e.0 (rank_tells a.is_answer b.is_answer e.1.0) e.1.1)
    (λ e. (ap (λ (t : StepTurn). t.place) e, (ap (λ (t : StepTurn). rank_of t.is_answer) e, ap (λ (t : StepTurn). t.line) e)))
    (Decides-and (eqb a.place b.place) (eqb (rank_of a.is_answer) (rank_of b.is_answer) && eqb a.line b.line) (Decides-eqb a.place b.place)
    (Decides-and (eqb (rank_of a.is_answer) (rank_of b.is_answer)) (eqb a.line b.line) (Decides-eqb (rank_of a.is_answer) (rank_of b.is_answer)) (Decides-eqb a.line b.line)))
  where
    whole : a.place ≡ b.place → a.is_answer ≡ b.is_answer → a.line ≡ b.line → a ≡ b
    whole p q l = λ i. record { place = p i; is_answer = q i; line = l i }

same_flips : (a b : StepTurn) → same_turn a b ≡ same_turn b a
same_flips a b = both (same_turn a b) (same_turn b a) (λ t. (turn_decides b a).1 (sym ((turn_decides a b).0 t))) (λ t. (turn_decides a b).1 (sym ((turn_decides b a).0 t)))
  where
    both : (s t : Bool) → (s ≡ true → t ≡ true) → (t ≡ true → s ≡ true) → s ≡ t
    both true t f g = sym (f refl)
    both false true f g = g refl
    both false false f g = refl

turns_moved : (given sorted : List Row) → IsPermutation given sorted → AllPairs (λ a b. a.turn ≢ b.turn) given → AllPairs (λ a b. a.turn ≢ b.turn) sorted
turns_moved given sorted same apart = pairs_unmap (λ (row : Row). row.turn) (λ a b. a ≢ b) sorted
    (AllPairs-from_IsDistinct turn_decides (map (λ (row : Row). row.turn) sorted)
    (IsDistinct-IsPermutation same_turn same_flips (map (λ (row : Row). row.turn) given) (map (λ (row : Row). row.turn) sorted) (IsPermutation-map (λ (row : Row). row.turn) given sorted same)
    (IsDistinct-from_AllPairs turn_decides (map (λ (row : Row). row.turn) given) (pairs_map (λ (row : Row). row.turn) (λ a b. a ≢ b) given apart))))

pairs_order : (h : History) (steps : List Step) → AllPairs (Precedes h) steps → InOrder h steps
pairs_order h [] p = tt
pairs_order h (s ∷ ss) p = (pairs_head (Precedes h) s ss p, pairs_order h ss (pairs_tail (Precedes h) s ss p))

ranks : IsStrictWeakOrder (λ (a b : Row). is_lt (step_turn_cmp a.turn b.turn))
ranks = ranks_by (then_total (on_total (λ (t : StepTurn). t.place) nat_cmp_total) (then_total (on_total (λ (t : StepTurn). t.is_answer) bool_cmp_total) (on_total (λ (t : StepTurn). t.line) nat_cmp_total))) (λ (row : Row). row.turn)

module _ (h : History) (r : IsReadable h) (lines : List PlacedLine) (rising : RisesByLine lines) (fit : IsFitting h lines)
    (given sorted : List Row) (of : AreRowsOf h (placed_steps h lines) given) (same : IsPermutation given sorted) (order : IsSortedByKey (λ row. row.turn) step_turn_cmp sorted) where
  step_in : (row : Row) → Contains given row → Contains (placed_steps h lines) (row_step row)
  step_in row c = subst (λ l. Contains l (row_step row)) of.are (map_has row_step given row c)

  step_is : (row : Row) → Contains given row → IsStep h (length h.order) (placement_of h lines) (row_step row)
  step_is row c = steps_sound h r lines rising fit (row_step row) (step_in row c)

  back : (row : Row) → Contains sorted row → Contains given row
  back row c = Contains-permutation sorted given row (IsPermutation-sym given sorted same) c

  turn : (row : Row) → Contains given row → row.turn ≡ step_turn h (row_step row)
  turn row c = all_at (IsInTurn h) given row of.turns c

  steps_differ : AllPairs (λ (a b : Row). row_step a ≢ row_step b) given
  steps_differ = pairs_unmap row_step (λ a b. a ≢ b) given (subst (λ l. AllPairs (λ (a b : Step). a ≢ b) l) (sym of.are) (steps_apart h r lines))

  turns_differ : AllPairs (λ (a b : Row). a.turn ≢ b.turn) given
  turns_differ = λ i j d l m e. steps_differ i j d l m (one (get_or given i d) (get_or given j d) (Contains-get_or given i d (omega (arith, l, m))) (Contains-get_or given j d m) e)
    where
      one : (a b : Row) → Contains given a → Contains given b → a.turn ≡ b.turn → row_step a ≡ row_step b
      one a b c d e = tied h (length h.order) (placement_of h lines) r (row_step a) (row_step b) (step_is a c) (step_is b d) (sym (turn a c) ∙ e ∙ turn b d)

  before : (a b : Row) → Contains sorted a → Contains sorted b → a.turn ≢ b.turn → is_lt (step_turn_cmp b.turn a.turn) ≡ false → Precedes h (row_step a) (row_step b)
  before a b c d differ not = go (precedes_cases h (row_step a) (row_step b))
    where
      go : Precedes h (row_step a) (row_step b) ⊎ Precedes h (row_step b) (row_step a)
          ⊎ ((step_place (row_step a) ≡ step_place (row_step b)) × (step_rank (row_step a) ≡ step_rank (row_step b)) × (step_line h (row_step a) ≡ step_line h (row_step b))) → Precedes h (row_step a) (row_step b)
      go (inl l) = l
      go (inr (inl l)) = absurd (true≢false (sym less ∙ not))
        where
          less : is_lt (step_turn_cmp b.turn a.turn) ≡ true
          less = subst (λ z. is_lt (step_turn_cmp z a.turn) ≡ true) (sym (turn b (back b d)))
              (subst (λ z. is_lt (step_turn_cmp (step_turn h (row_step b)) z) ≡ true) (sym (turn a (back a c))) (turn_less h (row_step b) (row_step a) l))
      go (inr (inr t)) = absurd (differ (turn a (back a c) ∙ equal ∙ sym (turn b (back b d))))
        where
          answers : is_answer (row_step a) ≡ is_answer (row_step b)
          answers = answer_same (row_step a) (row_step b) t.1

          equal : step_turn h (row_step a) ≡ step_turn h (row_step b)
          equal = λ i. record { place = t.0 i; is_answer = answers i; line = t.2 i }

  pub rows_are : AreRows h lines sorted
  rows_are = record {
    turns = all_from (IsInTurn h) sorted (λ row c. turn row (back row c));
    are = record {
      order = pairs_order h (map row_step sorted) (pairs_map row_step (Precedes h) sorted
          (λ i j d l m. before (get_or sorted i d) (get_or sorted j d) (Contains-get_or sorted i d (omega (arith, l, m))) (Contains-get_or sorted j d m) (turns_moved given sorted same turns_differ i j d l m)
          (sorted_far (λ (a b : Row). is_lt (step_turn_cmp a.turn b.turn)) ranks sorted order i j d (omega (arith, l)) m)));
      sound = λ step c. sound step (map_from row_step sorted step c);
      full = λ step is. Contains-permutation (map row_step given) (map row_step sorted) step (IsPermutation-map row_step given sorted same)
          (subst (λ l. Contains l step) (sym of.are) (steps_full h r lines rising fit step is));
    };
  }
    where
      sound : (step : Step) → (row : Row) × Contains sorted row × (row_step row ≡ step) → IsStep h (length h.order) (placement_of h lines) step
      sound step (row, c, e) = subst (λ z. IsStep h (length h.order) (placement_of h lines) z) e (step_is row (back row c))
