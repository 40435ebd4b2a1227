-- Turns, once they are sorted, list the writes of a window.
use Rattle.std.proofs.Common.{◌≡◌, ◌≢◌, ℕ, ◌+◌, ◌<◌, ◌⊎◌, inl, inr, Bool, true, false, if◌then◌else◌, List, ◌++◌, length, get_or, Option, Some, slice_get, option_map, map, All, AllPairs, Contains, IsSome, refl, sym, ap, ◌∙◌, subst, true≢false, arith}
use Rattle.std.specs.Cmp.{IsStrictWeakOrder, bool_cmp_total, nat_cmp_total}
use Rattle.std.specs.List.{filter_map}
use Rattle.std.specs.List.Sorted.{IsSorted}
use Rattle.std.specs.Ordering.{bool_cmp, ordering_then, is_lt, nat_cmp}
use Rattle.std.specs.declared.cmp.Ordering.{Ordering}
use Rattle.std.specs.declared.cmp.Ordering.TheVariants.{Less, Equal}
use Rattle.std.proofs.lemmas.Cmp.{on_total, then_total}
use Rattle.std.proofs.lemmas.List.Elements.{Contains-append_cases, Contains-append_left, Contains-append_right, Contains-get_or}
use Rattle.std.proofs.lemmas.List.Sorted.{Contains-permutation, IsPermutation-sym, ranks_by, sorted_far}
use Rattle.std.proofs.lemmas.Option.{same_Some, slice_get_within}
use Rattle.base_types.specs.declared.kubernetes.key.ObjectKey.{ObjectKey}
use Rattle.base_types.proofs.Orderings.{nat_equal, nat_less, then_less, then_next}
use Rattle.history_model.proofs.JudgingLemmas.{numbers}
use Rattle.history_model.proofs.Members.{all_from, at_apart, at_in, in_at}
use Rattle.history_model.specs.Events.{Event}
use Rattle.history_model.specs.Histories as past
use Rattle.history_model.specs.Histories.{IsEvent}
use Rattle.history_model.specs.Machine.{event_line}
use Rattle.history_model.specs.Makers.{IsMadeVersion, IsShowing}
use Rattle.history_model.specs.Outcomes.{Write, MadeAt, RemovedIn, IsListedBefore, IsWriteIn, IsMadeAt, IsRemovedIn, AreWrites}
use Rattle.history_model.specs.Readable.{IsReadable}
use Rattle.local_bounds.proofs.ListRight.{pairs_append}
use Rattle.object_past.specs.Modelled.{recorded, version_of}
use Rattle.object_past.specs.declared.removal.Removal.{Removal}
use Rattle.object_past.specs.declared.version.Version.{Version}
use Rattle.log_context.specs.Histories.{history_of}
use Rattle.log_context.specs.Known.{Known}
use Rattle.write_groups.proofs.Judging.{apart_moved}
use Rattle.write_groups.proofs.Lists.{made_from, made_has, made_pairs, map_from, map_has, pairs_unmap}
use Rattle.window_writes.proofs.TurnShowing.{event_here, removal_known, showing_line, version_made}
use Rattle.window_writes.specs.Lines.{AreWriteLines}
use Rattle.window_writes.specs.Lines.{write_line}
use Rattle.window_writes.specs.Turns.{made_write, removed_write, write_turn_order, write_of_turn, AreTurns, IsMadeTurn, IsMadeWithin, IsRemovedTurn, IsRemovedWithin, IsTurnOf}
use Rattle.window_writes.specs.declared.writes.WriteTurn.{WriteTurn}

-- a turn's position, with what stands there
abbrev turn_code : WriteTurn → ℕ
turn_code turn = if turn.removes then turn.position + turn.position + 1 else turn.position + turn.position

code_of_made : (turn : WriteTurn) → turn.removes ≡ false → turn_code turn ≡ turn.position + turn.position
code_of_made turn e = ap (λ b. if b then turn.position + turn.position + 1 else turn.position + turn.position) e

code_of_removed : (turn : WriteTurn) → turn.removes ≡ true → turn_code turn ≡ turn.position + turn.position + 1
code_of_removed turn e = ap (λ b. if b then turn.position + turn.position + 1 else turn.position + turn.position) e

bool_less : (a b : Bool) → a ≡ false → b ≡ true → bool_cmp a b ≡ Less
bool_less false false p q = absurd (true≢false (sym q))
bool_less false true p q = refl
bool_less true b p q = absurd (true≢false p)

bool_equal : (a b : Bool) → a ≡ b → bool_cmp a b ≡ Equal
bool_equal false false e = refl
bool_equal false true e = absurd (true≢false (sym e))
bool_equal true false e = absurd (true≢false e)
bool_equal true true e = refl

-- the turn doesn't come before the other
module _ (a b : WriteTurn) (not : is_lt (write_turn_order a b) ≡ false) where
  abbrev rest : Ordering
  rest = ordering_then (bool_cmp a.removes b.removes) (ordering_then (nat_cmp a.line b.line) (nat_cmp a.position b.position))

  not_place : a.place < b.place → ⊥
  not_place l = true≢false (sym (then_less (nat_cmp a.place b.place) rest (nat_less a.place b.place l)) ∙ not)

  not_rank : a.place ≡ b.place → a.removes ≡ false → b.removes ≡ true → ⊥
  not_rank e p q = true≢false (sym (then_next (nat_cmp a.place b.place) rest (nat_equal a.place b.place e)
      (then_less (bool_cmp a.removes b.removes) (ordering_then (nat_cmp a.line b.line) (nat_cmp a.position b.position)) (bool_less a.removes b.removes p q))) ∙ not)

  not_line : a.place ≡ b.place → a.removes ≡ b.removes → a.line < b.line → ⊥
  not_line e p l = true≢false (sym (then_next (nat_cmp a.place b.place) rest (nat_equal a.place b.place e)
      (then_next (bool_cmp a.removes b.removes) (ordering_then (nat_cmp a.line b.line) (nat_cmp a.position b.position)) (bool_equal a.removes b.removes p)
      (then_less (nat_cmp a.line b.line) (nat_cmp a.position b.position) (nat_less a.line b.line l)))) ∙ not)

module _ (known : Known) (r : IsReadable (history_of known)) (low high : ℕ) (turns : List WriteTurn) (are : AreTurns known low high turns) where
  abbrev h : past.History
  h = history_of known

  abbrev f : WriteTurn → Option Write
  f turn = write_of_turn known turn

  abbrev IsMade : WriteTurn → Type 0
  IsMade turn = IsTurnOf (IsMadeWithin known.setup.start low high) (IsMadeTurn known) known.versions (length known.versions) turn

  abbrev IsRemoved : WriteTurn → Type 0
  IsRemoved turn = IsTurnOf (IsRemovedWithin low high) (IsRemovedTurn known) known.removals (length known.removals) turn

  kind : (turn : WriteTurn) → Contains turns turn → IsMade turn ⊎ IsRemoved turn
  kind turn c = go (Contains-append_cases are.made are.removed turn (Contains-permutation turns (are.made ++ are.removed) turn (IsPermutation-sym (are.made ++ are.removed) turns are.same) c))
    where
      go : Contains are.made turn ⊎ Contains are.removed turn → IsMade turn ⊎ IsRemoved turn
      go (inl d) = inl (are.of_made.sound turn d)
      go (inr d) = inr (are.of_removed.sound turn d)

  made_is : (turn : WriteTurn) (t : IsMade turn) → f turn ≡ Some (made_write turn t.item)
  made_is turn t = ap (λ b. if b then option_map (removed_write turn) (slice_get known.removals turn.position) else option_map (made_write turn) (slice_get known.versions turn.position)) t.turns.made
      ∙ ap (option_map (made_write turn)) t.at

  removed_is : (turn : WriteTurn) (t : IsRemoved turn) → f turn ≡ Some (removed_write turn t.item)
  removed_is turn t = ap (λ b. if b then option_map (removed_write turn) (slice_get known.removals turn.position) else option_map (made_write turn) (slice_get known.versions turn.position)) t.turns.removed
      ∙ ap (option_map (removed_write turn)) t.at

  pub turns_written : All (λ turn. IsSome (write_of_turn known turn)) turns
  turns_written = all_from (λ turn. IsSome (write_of_turn known turn)) turns (λ turn c. go turn (kind turn c))
    where
      go : (turn : WriteTurn) → IsMade turn ⊎ IsRemoved turn → IsSome (write_of_turn known turn)
      go turn (inl t) = subst IsSome (sym (made_is turn t)) refl
      go turn (inr t) = subst IsSome (sym (removed_is turn t)) refl

  versions_rising : AllPairs (λ a b. a.revision < b.revision) known.versions
  versions_rising = pairs_unmap version_of (λ a b. a.revision < b.revision) known.versions r.versions.rising

  removals_rising : AllPairs (λ a b. a.range.event < b.range.event) known.removals
  removals_rising = pairs_unmap recorded (λ a b. a.range.event < b.range.event) known.removals r.removals.rising

  -- the writes are of the window
  made_sound : (turn : WriteTurn) (t : IsMade turn) → IsWriteIn h low high (made_write turn t.item)
  made_sound turn t = record {
    version = version_of t.item;
    known = map_has version_of known.versions t.item (at_in known.versions turn.position t.item t.at);
    above = t.counts.0;
    inside = ((let l = t.counts.1 in let q = t.turns.of_place in omega (arith, l, q)), (let l = t.counts.2 in let q = t.turns.of_place in omega (arith, l, q)));
    of_revision = t.turns.of_place;
    of_key = refl;
    m = t.turns.line.m;
    shown = t.turns.line.shown;
    of_line = t.turns.line.of_line;
  }

  removed_sound : (turn : WriteTurn) (t : IsRemoved turn) → IsWriteIn h low high (removed_write turn t.item)
  removed_sound turn t = record {
    removal = recorded t.item;
    known = map_has recorded known.removals t.item (at_in known.removals turn.position t.item t.at);
    inside = (t.counts.0, (let l = t.counts.1 in let q = t.turns.of_place in omega (arith, l, q)), t.counts.2);
    of_first = t.turns.of_place;
    of_last = refl;
    of_key = refl;
    of_line = t.turns.of_line;
  }

  sound : (write : Write) → Contains (filter_map f turns) write → IsWriteIn h low high write
  sound write c = go (made_from f turns write c)
    where
      go : (turn : WriteTurn) × Contains turns turn × (f turn ≡ Some write) → IsWriteIn h low high write
      go (turn, d, e) = by (kind turn d)
        where
          by : IsMade turn ⊎ IsRemoved turn → IsWriteIn h low high write
          by (inl t) = subst (IsWriteIn h low high) (same_Some (made_write turn t.item) write (sym (made_is turn t) ∙ e)) (made_sound turn t)
          by (inr t) = subst (IsWriteIn h low high) (same_Some (removed_write turn t.item) write (sym (removed_is turn t) ∙ e)) (removed_sound turn t)

  -- each write of the window has a turn
  made_full : (revision line : ℕ) (key : ObjectKey) → IsMadeAt h low high revision line key → Contains (filter_map f turns) (MadeAt revision line key)
  made_full revision line key x = go (map_from version_of known.versions x.version x.known)
    where
      go : (v : Version) × Contains known.versions v × (version_of v ≡ x.version) → Contains (filter_map f turns) (MadeAt revision line key)
      go (v, c, e) = at (in_at known.versions v c)
        where
          revisions : v.revision ≡ revision
          revisions = ap (λ (z : past.Version). z.revision) e ∙ sym x.of_revision

          counts : IsMadeWithin known.setup.start low high v
          counts = ((let a = x.above in let q = ap (λ (z : past.Version). z.revision) e in omega (arith, a, q)), (let l = x.inside.0 in omega (arith, l, revisions)), (let l = x.inside.1 in omega (arith, l, revisions)))

          at : (i : ℕ) × (slice_get known.versions i ≡ Some v) → Contains (filter_map f turns) (MadeAt revision line key)
          at (i, p) = by (are.of_made.full i v (slice_get_within known.versions i v p) p counts)
            where
              by : (turn : WriteTurn) × Contains are.made turn × (turn.position ≡ i) → Contains (filter_map f turns) (MadeAt revision line key)
              by (turn, d, q) = made_has f turns turn (MadeAt revision line key) (Contains-permutation (are.made ++ are.removed) turns turn are.same (Contains-append_left are.made are.removed turn d))
                  (made_is turn t ∙ (λ j. Some (MadeAt (places j) (lines j) (keys j))))
                where
                  t : IsMade turn
                  t = are.of_made.sound turn d

                  item : t.item ≡ v
                  item = same_Some t.item v (sym t.at ∙ ap (slice_get known.versions) q ∙ p)

                  same : version_of t.item ≡ x.version
                  same = ap version_of item ∙ e

                  made : IsMadeVersion h (version_of t.item)
                  made = version_made known turn.position t.item r t.at t.counts.0

                  places : turn.place ≡ revision
                  places = t.turns.of_place ∙ ap (λ (z : past.Version). z.revision) same ∙ sym x.of_revision

                  lines : turn.line ≡ line
                  lines = t.turns.line.of_line
                      ∙ showing_line h r (version_of t.item) made (version_of t.item).maker t.turns.line.m x.m t.turns.line.shown
                      (subst (λ (z : past.Version). IsShowing h z.key z.revision z.maker x.m) (sym same) x.shown)
                      ∙ sym x.of_line

                  keys : t.item.key ≡ key
                  keys = ap (λ (z : past.Version). z.key) same ∙ sym x.of_key

  removed_full : (first last line : ℕ) (key : ObjectKey) → IsRemovedIn h low high first last line key → Contains (filter_map f turns) (RemovedIn first last line key)
  removed_full first last line key x = go (map_from recorded known.removals x.removal x.known)
    where
      go : (w : Removal) × Contains known.removals w × (recorded w ≡ x.removal) → Contains (filter_map f turns) (RemovedIn first last line key)
      go (w, c, e) = at (in_at known.removals w c)
        where
          counts : IsRemovedWithin low high w
          counts =
              let p = ap (λ (z : past.Removal). z.range.low) e in
              let q = ap (λ (z : past.Removal). z.range.high) e in
              let a = x.of_first in
              let b = x.of_last in
              (x.inside.0, (let l = x.inside.1 in omega (arith, l, p, a)), (let l = x.inside.2 in omega (arith, l, q, b)))

          at : (i : ℕ) × (slice_get known.removals i ≡ Some w) → Contains (filter_map f turns) (RemovedIn first last line key)
          at (i, p) = by (are.of_removed.full i w (slice_get_within known.removals i w p) p counts)
            where
              by : (turn : WriteTurn) × Contains are.removed turn × (turn.position ≡ i) → Contains (filter_map f turns) (RemovedIn first last line key)
              by (turn, d, q) = made_has f turns turn (RemovedIn first last line key) (Contains-permutation (are.made ++ are.removed) turns turn are.same (Contains-append_right are.made are.removed turn d))
                  (removed_is turn t ∙ (λ j. Some (RemovedIn (places j) (ends j) (lines j) (keys j))))
                where
                  t : IsRemoved turn
                  t = are.of_removed.sound turn d

                  same : recorded t.item ≡ x.removal
                  same = ap recorded (same_Some t.item w (sym t.at ∙ ap (slice_get known.removals) q ∙ p)) ∙ e

                  places : turn.place ≡ first
                  places = t.turns.of_place ∙ ap (λ (z : past.Removal). z.range.low) same ∙ sym x.of_first

                  ends : t.item.range.high ≡ last
                  ends = ap (λ (z : past.Removal). z.range.high) same ∙ sym x.of_last

                  lines : turn.line ≡ line
                  lines = t.turns.of_line ∙ ap (λ (z : past.Removal). event_line (slice_get h.events z.range.event)) same ∙ sym x.of_line

                  keys : t.item.key ≡ key
                  keys = ap (λ (z : past.Removal). z.key) same ∙ sym x.of_key

  full : (write : Write) → IsWriteIn h low high write → Contains (filter_map f turns) write
  full (MadeAt revision line key) x = made_full revision line key x
  full (RemovedIn first last line key) x = removed_full first last line key x

  -- no two turns are of one version or of one removal
  abbrev IsOther : WriteTurn → WriteTurn → Type 0
  IsOther a b = turn_code a ≢ turn_code b

  made_apart : (a b : WriteTurn) → IsMade a → IsMade b → a.position < b.position → IsOther a b
  made_apart a b s t l e = omega (arith, l, e, code_of_made a s.turns.made, code_of_made b t.turns.made)

  removed_apart : (a b : WriteTurn) → IsRemoved a → IsRemoved b → a.position < b.position → IsOther a b
  removed_apart a b s t l e = omega (arith, l, e, code_of_removed a s.turns.removed, code_of_removed b t.turns.removed)

  kinds_apart : (a b : WriteTurn) → IsMade a → IsRemoved b → IsOther a b
  kinds_apart a b s t e = omega (arith, e, code_of_made a s.turns.made, code_of_removed b t.turns.removed)

  apart : AllPairs IsOther turns
  apart = apart_moved turn_code (are.made ++ are.removed) turns are.same (pairs_append IsOther are.made are.removed among_made among_removed
      (λ a b c d. kinds_apart a b (are.of_made.sound a c) (are.of_removed.sound b d)))
    where
      among_made : AllPairs IsOther are.made
      among_made = λ i j d l m. made_apart (get_or are.made i d) (get_or are.made j d)
          (are.of_made.sound _ (Contains-get_or are.made i d (omega (arith, l, m)))) (are.of_made.sound _ (Contains-get_or are.made j d m)) (are.of_made.rising i j d l m)

      among_removed : AllPairs IsOther are.removed
      among_removed = λ i j d l m. removed_apart (get_or are.removed i d) (get_or are.removed j d)
          (are.of_removed.sound _ (Contains-get_or are.removed i d (omega (arith, l, m)))) (are.of_removed.sound _ (Contains-get_or are.removed j d m)) (are.of_removed.rising i j d l m)

  one_version : (a b : WriteTurn) (s : IsMade a) (t : IsMade b) → a.place ≡ b.place → a.position ≡ b.position
  one_version a b s t e = at_apart (λ (v : Version). v.revision) known.versions a.position b.position s.item t.item versions_rising s.at t.at (sym s.turns.of_place ∙ e ∙ t.turns.of_place)

  one_removal : (a b : WriteTurn) (s : IsRemoved a) (t : IsRemoved b) → a.line ≡ b.line → a.position ≡ b.position
  one_removal a b s t e = go (event_here known s.item.range.event (removal_known known a.position s.item r s.at)) (event_here known t.item.range.event (removal_known known b.position t.item r t.at))
    where
      go : (x : Event) × IsEvent h s.item.range.event x → (y : Event) × IsEvent h t.item.range.event y → a.position ≡ b.position
      go (x, k) (y, l) = at_apart (λ (w : Removal). w.range.event) known.removals a.position b.position s.item t.item removals_rising s.at t.at
          (at_apart (λ (z : Event). z.line) h.events s.item.range.event t.item.range.event x y r.lines k l (sym (ap event_line k) ∙ sym s.turns.of_line ∙ e ∙ t.turns.of_line ∙ ap event_line l))

  module _ (sorted : IsSorted write_turn_order turns) where
    ranks : IsStrictWeakOrder (λ a b. is_lt (write_turn_order a b))
    ranks = ranks_by (then_total (on_total (λ (t : WriteTurn). t.place) nat_cmp_total) (then_total (on_total (λ (t : WriteTurn). t.removes) bool_cmp_total) (then_total (on_total (λ (t : WriteTurn). t.line) nat_cmp_total) (on_total (λ (t : WriteTurn). t.position) nat_cmp_total)))) (λ t. t)

    far : AllPairs (λ a b. is_lt (write_turn_order b a) ≡ false) turns
    far = λ i j d l m. sorted_far (λ a b. is_lt (write_turn_order a b)) ranks turns sorted i j d (omega arith) m

    -- the places, ranks and lines of two writes
    listed : (a b : WriteTurn) → (IsMade a ⊎ IsRemoved a) → (IsMade b ⊎ IsRemoved b) → IsOther a b → is_lt (write_turn_order b a) ≡ false → (x y : Write) → f a ≡ Some x → f b ≡ Some y → IsListedBefore x y
    listed a b (inl s) (inl t) other not x y ex ey =
        subst (λ w. IsListedBefore w y) (same_Some (made_write a s.item) x (sym (made_is a s) ∙ ex))
        (subst (λ w. IsListedBefore (made_write a s.item) w) (same_Some (made_write b t.item) y (sym (made_is b t) ∙ ey)) (go (numbers a.place b.place)))
      where
        go : (a.place < b.place) ⊎ (b.place < a.place) ⊎ (a.place ≡ b.place) → IsListedBefore (made_write a s.item) (made_write b t.item)
        go (inl l) = inl l
        go (inr (inl l)) = absurd (not_place b a not l)
        go (inr (inr e)) = absurd (other (let p = one_version a b s t e in omega (arith, p, code_of_made a s.turns.made, code_of_made b t.turns.made)))
    listed a b (inl s) (inr t) other not x y ex ey =
        subst (λ w. IsListedBefore w y) (same_Some (made_write a s.item) x (sym (made_is a s) ∙ ex))
        (subst (λ w. IsListedBefore (made_write a s.item) w) (same_Some (removed_write b t.item) y (sym (removed_is b t) ∙ ey)) (go (numbers a.place b.place)))
      where
        go : (a.place < b.place) ⊎ (b.place < a.place) ⊎ (a.place ≡ b.place) → IsListedBefore (made_write a s.item) (removed_write b t.item)
        go (inl l) = inl l
        go (inr (inl l)) = absurd (not_place b a not l)
        go (inr (inr e)) = inr (inl (e, omega arith))
    listed a b (inr s) (inl t) other not x y ex ey =
        subst (λ w. IsListedBefore w y) (same_Some (removed_write a s.item) x (sym (removed_is a s) ∙ ex))
        (subst (λ w. IsListedBefore (removed_write a s.item) w) (same_Some (made_write b t.item) y (sym (made_is b t) ∙ ey)) (go (numbers a.place b.place)))
      where
        go : (a.place < b.place) ⊎ (b.place < a.place) ⊎ (a.place ≡ b.place) → IsListedBefore (removed_write a s.item) (made_write b t.item)
        go (inl l) = inl l
        go (inr (inl l)) = absurd (not_place b a not l)
        go (inr (inr e)) = absurd (not_rank b a not (sym e) t.turns.made s.turns.removed)
    listed a b (inr s) (inr t) other not x y ex ey =
        subst (λ w. IsListedBefore w y) (same_Some (removed_write a s.item) x (sym (removed_is a s) ∙ ex))
        (subst (λ w. IsListedBefore (removed_write a s.item) w) (same_Some (removed_write b t.item) y (sym (removed_is b t) ∙ ey)) (go (numbers a.place b.place)))
      where
        by : a.place ≡ b.place → (a.line < b.line) ⊎ (b.line < a.line) ⊎ (a.line ≡ b.line) → IsListedBefore (removed_write a s.item) (removed_write b t.item)
        by e (inl l) = inr (inr (e, refl, l))
        by e (inr (inl l)) = absurd (not_line b a not (sym e) (t.turns.removed ∙ sym s.turns.removed) l)
        by e (inr (inr q)) = absurd (other (let p = one_removal a b s t q in omega (arith, p, code_of_removed a s.turns.removed, code_of_removed b t.turns.removed)))

        go : (a.place < b.place) ⊎ (b.place < a.place) ⊎ (a.place ≡ b.place) → IsListedBefore (removed_write a s.item) (removed_write b t.item)
        go (inl l) = inl l
        go (inr (inl l)) = absurd (not_place b a not l)
        go (inr (inr e)) = by e (numbers a.line b.line)

    writes_are : AreWrites h low high (filter_map f turns)
    writes_are = record {
      sorted = made_pairs f (λ a b. IsOther a b × (is_lt (write_turn_order b a) ≡ false)) IsListedBefore turns (λ i j d l m. (apart i j d l m, far i j d l m))
          (λ a b x y c d e p q. listed a b (kind a c) (kind b d) e.0 e.1 x y p q);
      sound = sound;
      full = full;
    }

    pub lines_are : AreWriteLines known low high (map write_line (filter_map (write_of_turn known) turns))
    lines_are = record { writes = filter_map f turns; are = writes_are; spelled = refl }
