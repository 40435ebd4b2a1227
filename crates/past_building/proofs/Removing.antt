-- The first removal of an object, and the places at which it may have happened.
use Rattle.std.proofs.Common.{◌≡◌, ℕ, ◌+◌, ◌≤◌, ◌⊎◌, inl, inr, ⊎_elim, Bool, true, false, ◌&&◌, List, [], ◌∷◌, map, Option, Some, None, option_map, option_and_then, slice_get, max, min, refl, sym, ap, ◌∙◌, subst, arith, true≢false}
use Rattle.std.specs.Prelude.{AllPairs, Contains, find, bytes_eq, if◌then◌else◌}
use Rattle.std.proofs.lemmas.Option.{same_Some, slice_get-map, slice_get_within}
use Rattle.std.specs.Cmp.Lexicographic.{bytes_decides}
use Rattle.base_types.specs.declared.verdict.claim.Range.{Range}
use Rattle.base_types.specs.declared.kubernetes.key.ObjectKey.{ObjectKey}
use Rattle.history_model.proofs.JudgingLemmas.{judged_once}
use Rattle.history_model.proofs.KeyLemmas.{key_decides}
use Rattle.history_model.proofs.Members.{here, there, in_cons, not_in_none, pairs_head, pairs_tail, all_at}
use Rattle.history_model.specs.Events as event
use Rattle.history_model.specs.Histories as past
use Rattle.history_model.specs.Incarnations.{IsFirstWithUid, IsRemovalBehind, IsRemovalOf, place_before}
use Rattle.history_model.specs.Judging.{IsFirst, IsJudgedBefore, IsOrder}
use Rattle.base_types.specs.Keys.{same_key}
use Rattle.history_model.specs.Windows.{lowest, highest}
use Rattle.write_groups.specs.Modelled.{HasEvents, answer_of, event_of}
use Rattle.write_groups.specs.declared.event.LogEvent.{LogEvent}
use Rattle.write_groups.specs.declared.event.Shown.{Shown}
use Rattle.write_groups.specs.declared.event.Shown.TheVariants.{Made, Removed, Opaque, Saw, SawNone, SawSome, SawOther, Listed, Free, Aside}
use Rattle.time_windows.specs.History as timed_history
use Rattle.past_building.specs.Keyed.{RemovalNumbers}
use Rattle.past_building.specs.Surrounded.{HasLog}
use Rattle.object_past.specs.Modelled.{version_of}
use Rattle.past_building.specs.Modelled.{removal_of}
use Rattle.past_building.specs.Removals.{found_at, first_removal, gone_at, gone_in, is_gone}
use Rattle.object_past.specs.declared.version.Version.{Version}

abbrev pub Precedes : past.History → ℕ → ℕ → Type 0
Precedes h a b = (x y : event.Event) → past.IsEvent h a x → past.IsEvent h b y → IsJudgedBefore x y

-- two of a list are one, or one of them comes before the other
pub in_turn : {X : Type 0} (R : X → X → Type 0) (xs : List X) (a b : X) → AllPairs R xs → Contains xs a → Contains xs b → (a ≡ b) ⊎ (R a b ⊎ R b a)
in_turn R [] a b pairs x y = absurd (not_in_none x)
in_turn {X} R (z ∷ zs) a b pairs x y = go (in_turn R zs a b (pairs_tail R z zs pairs)) (in_cons z zs a x) (in_cons z zs b y)
  where
    go : (Contains zs a → Contains zs b → (a ≡ b) ⊎ (R a b ⊎ R b a)) → (z ≡ a) ⊎ Contains zs a → (z ≡ b) ⊎ Contains zs b → (a ≡ b) ⊎ (R a b ⊎ R b a)
    go rest (inl p) (inl q) = inl (sym p ∙ q)
    go rest (inl p) (inr q) = inr (inl (subst (λ w. R w b) p (all_at (R z) zs b (pairs_head R z zs pairs) q)))
    go rest (inr p) (inl q) = inr (inr (subst (λ w. R w a) q (all_at (R z) zs a (pairs_head R z zs pairs) p)))
    go rest (inr p) (inr q) = rest p q

-- the first that passes a test
pub record IsFirstOf (h : past.History) (numbers : List ℕ) (test : ℕ → Bool) (n : ℕ) : Type 0 where
  pub known : Contains numbers n
  pub passes : test n ≡ true
  pub first : (k : ℕ) → Contains numbers k → test k ≡ true → (k ≡ n) ⊎ Precedes h n k

abbrev pub IsFoundBy : past.History → List ℕ → (ℕ → Bool) → Option ℕ → Type 0
IsFoundBy h numbers test None = (k : ℕ) → Contains numbers k → test k ≡ true → ⊥
IsFoundBy h numbers test (Some n) = IsFirstOf h numbers test n

found_by : (h : past.History) (numbers : List ℕ) (test : ℕ → Bool) → AllPairs (Precedes h) numbers → IsFoundBy h numbers test (find test numbers)
found_by h [] test pairs = λ k among passes. not_in_none among
found_by h (n ∷ numbers) test pairs = by (test n) refl (found_by h numbers test (pairs_tail (Precedes h) n numbers pairs))
  where
    by : (t : Bool) → test n ≡ t → IsFoundBy h numbers test (find test numbers) → IsFoundBy h (n ∷ numbers) test (if t then Some n else find test numbers)
    by true is rest = record {
      known = here n numbers;
      passes = is;
      first = λ k among passes. ⊎_elim (λ same. inl (sym same)) (λ later. inr (all_at (Precedes h n) numbers k (pairs_head (Precedes h) n numbers pairs) later)) (in_cons n numbers k among);
    }
    by false is rest = go (find test numbers) rest
      where
        not_n : (k : ℕ) → n ≡ k → test k ≡ true → ⊥
        not_n k same passes = true≢false (sym passes ∙ sym (ap test same) ∙ is)

        go : (found : Option ℕ) → IsFoundBy h numbers test found → IsFoundBy h (n ∷ numbers) test found
        go None none = λ k among passes. ⊎_elim (λ same. not_n k same passes) (λ later. none k later passes) (in_cons n numbers k among)
        go (Some m) found = record {
          known = there n m numbers found.known;
          passes = found.passes;
          first = λ k among passes. ⊎_elim (λ same. absurd (not_n k same passes)) (λ later. found.first k later passes) (in_cons n numbers k among);
        }

-- what the test of a removal tells
gone_tells : (h : past.History) (events : List LogEvent) (key : ObjectKey) (uid : List ℕ) (n : ℕ) → HasEvents events h → is_gone key uid (gone_at events n) ≡ true
    → (e : LogEvent) × (slice_get events n ≡ Some e) × past.IsEvent h n (event_of e) × IsRemovalOf key uid (event_of e)
gone_tells h events key uid n all passes = go (slice_get events n) refl passes
  where
    of : (e : LogEvent) → slice_get events n ≡ Some e → (shown : Shown) → e.answer ≡ shown → is_gone key uid (gone_in shown) ≡ true
        → (x : LogEvent) × (slice_get events n ≡ Some x) × past.IsEvent h n (event_of x) × IsRemovalOf key uid (event_of x)
    of e at (Made item created) is passes = absurd (true≢false (sym passes))
    of e at (Removed k u) is passes = (
      e,
      at,
      subst (λ es. slice_get es n ≡ Some (event_of e)) (sym all) (slice_get-map event_of events n ∙ ap (option_map event_of) at),
      ap answer_of is ∙ removed_as (both_keys (same_key k key) (bytes_eq u uid) passes),
    )
      where
        both_keys : (a b : Bool) → (a && b) ≡ true → (a ≡ true) × (b ≡ true)
        both_keys true true is = (refl, refl)
        both_keys true false is = absurd (true≢false (sym is))
        both_keys false b is = absurd (true≢false (sym is))

        removed_as : (same_key k key ≡ true) × (bytes_eq u uid ≡ true) → event.Removed k u ≡ event.Removed key uid
        removed_as tests = λ i. event.Removed (key_of i) ((bytes_decides u uid).0 tests.1 i)
          where
            key_of : k ≡ key
            key_of = (key_decides k key).0 tests.0
    of e at (Opaque cover) is passes = absurd (true≢false (sym passes))
    of e at (Saw item) is passes = absurd (true≢false (sym passes))
    of e at (SawNone k) is passes = absurd (true≢false (sym passes))
    of e at (SawSome k) is passes = absurd (true≢false (sym passes))
    of e at (SawOther k) is passes = absurd (true≢false (sym passes))
    of e at (Listed listing) is passes = absurd (true≢false (sym passes))
    of e at Free is passes = absurd (true≢false (sym passes))
    of e at Aside is passes = absurd (true≢false (sym passes))

    go : (found : Option LogEvent) → slice_get events n ≡ found → is_gone key uid (option_and_then (λ e. gone_in e.answer) found) ≡ true
        → (x : LogEvent) × (slice_get events n ≡ Some x) × past.IsEvent h n (event_of x) × IsRemovalOf key uid (event_of x)
    go None at passes = absurd (true≢false (sym passes))
    go (Some e) at passes = of e at e.answer refl passes

tells_gone : (h : past.History) (events : List LogEvent) (key : ObjectKey) (uid : List ℕ) (n : ℕ) (x : event.Event) → HasEvents events h → past.IsEvent h n x
    → IsRemovalOf key uid x → is_gone key uid (gone_at events n) ≡ true
tells_gone h events key uid n x all known removal = go (slice_get events n) refl (subst (λ es. slice_get es n ≡ Some x) all known)
  where
    of : (shown : Shown) → answer_of shown ≡ event.Removed key uid → is_gone key uid (gone_in shown) ≡ true
    of (Made item created) is = absurd (cc is)
    of (Removed k u) is = both (key_in k u is) (uid_in k u is)
      where
        key_of : event.Answer → ObjectKey
        key_of (event.Made item created) = key
        key_of (event.Removed k u) = k
        key_of (event.Opaque cover) = key
        key_of (event.Saw item) = key
        key_of (event.SawNone k) = key
        key_of (event.SawSome k) = key
        key_of (event.SawOther k) = key
        key_of (event.Listed listing) = key
        key_of event.Free = key
        key_of event.Aside = key

        uid_of : event.Answer → List ℕ
        uid_of (event.Made item created) = uid
        uid_of (event.Removed k u) = u
        uid_of (event.Opaque cover) = uid
        uid_of (event.Saw item) = uid
        uid_of (event.SawNone k) = uid
        uid_of (event.SawSome k) = uid
        uid_of (event.SawOther k) = uid
        uid_of (event.Listed listing) = uid
        uid_of event.Free = uid
        uid_of event.Aside = uid

        key_in : (k : ObjectKey) (u : List ℕ) → event.Removed k u ≡ event.Removed key uid → k ≡ key
        key_in k u is = ap key_of is

        uid_in : (k : ObjectKey) (u : List ℕ) → event.Removed k u ≡ event.Removed key uid → u ≡ uid
        uid_in k u is = ap uid_of is

        both : k ≡ key → u ≡ uid → is_gone key uid (Some (k, u)) ≡ true
        both p q = rw ((key_decides k key).1 p, (bytes_decides u uid).1 q) refl
    of (Opaque cover) is = absurd (cc is)
    of (Saw item) is = absurd (cc is)
    of (SawNone k) is = absurd (cc is)
    of (SawSome k) is = absurd (cc is)
    of (SawOther k) is = absurd (cc is)
    of (Listed listing) is = absurd (cc is)
    of Free is = absurd (cc is)
    of Aside is = absurd (cc is)

    go : (found : Option LogEvent) → slice_get events n ≡ found → slice_get (map event_of events) n ≡ Some x → is_gone key uid (option_and_then (λ e. gone_in e.answer) found) ≡ true
    go None at here' = absurd (cc (sym (slice_get-map event_of events n ∙ ap (option_map event_of) at) ∙ here'))
    go (Some e) at here' = of e.answer (ap (λ (y : event.Event). y.answer) (same_Some (event_of e) x (sym (slice_get-map event_of events n ∙ ap (option_map event_of) at) ∙ here')) ∙ removal)

-- no event removed the object
pub none_removed : (h : past.History) (events : List LogEvent) (key : ObjectKey) (uid : List ℕ) (n : ℕ) (x : event.Event) → HasEvents events h → IsOrder h
    → first_removal events h.order key uid ≡ None → past.IsEvent h n x → IsRemovalOf key uid x → ⊥
none_removed h events key uid n x all order none known removal =
    subst (IsFoundBy h h.order (λ k. is_gone key uid (gone_at events k))) none (found_by h h.order (λ k. is_gone key uid (gone_at events k)) order.sorted)
    n (order.full n (slice_get_within h.events n x known)) (tells_gone h events key uid n x all known removal)

abbrev pub IsOnlyFirst : past.History → List LogEvent → ObjectKey → List ℕ → ℕ → Type 0
IsOnlyFirst h events key uid n = (e : LogEvent) × (slice_get events n ≡ Some e) × IsFirst h (IsRemovalOf key uid) n (event_of e)
    × ((m : ℕ) (x : event.Event) → IsFirst h (IsRemovalOf key uid) m x → (m ≡ n) × (x ≡ event_of e))

first_from : (h : past.History) (events : List LogEvent) (key : ObjectKey) (uid : List ℕ) (n : ℕ) (e : LogEvent) → HasEvents events h → IsOrder h
    → IsFirstOf h h.order (λ k. is_gone key uid (gone_at events k)) n → slice_get events n ≡ Some e → past.IsEvent h n (event_of e) → IsRemovalOf key uid (event_of e)
    → IsOnlyFirst h events key uid n
first_from h events key uid n e all order found at known holds = (
  e,
  at,
  record {
    known = known;
    holds = holds;
    none_before = λ k other other_known other_holds before. ⊎_elim
        (λ same. let one : other ≡ event_of e = same_Some other (event_of e) (sym other_known ∙ ap (slice_get h.events) same ∙ known) in
        let twice : IsJudgedBefore (event_of e) (event_of e) = subst (λ x. IsJudgedBefore x (event_of e)) one before in
        judged_once (event_of e) (event_of e) twice twice)
        (λ later. judged_once other (event_of e) before (later (event_of e) other known other_known))
        (found.first k (order.full k (slice_get_within h.events k other other_known)) (tells_gone h events key uid k other all other_known other_holds));
  },
  λ m x first. ⊎_elim
      (λ same. (same, same_Some x (event_of e) (sym first.known ∙ ap (slice_get h.events) same ∙ known)))
      (λ later. absurd (first.none_before n (event_of e) known holds (later (event_of e) x known first.known)))
      (found.first m (order.full m (slice_get_within h.events m x first.known)) (tells_gone h events key uid m x all first.known first.holds)),
)

-- the first removal is the first of the model, and the only one that is
pub first_is : (h : past.History) (events : List LogEvent) (key : ObjectKey) (uid : List ℕ) (n : ℕ) → HasEvents events h → IsOrder h
    → first_removal events h.order key uid ≡ Some n → IsOnlyFirst h events key uid n
first_is h events key uid n all order is =
    let found : IsFirstOf h h.order (λ k. is_gone key uid (gone_at events k)) n = subst (IsFoundBy h h.order (λ k. is_gone key uid (gone_at events k))) is
    (found_by h h.order (λ k. is_gone key uid (gone_at events k)) order.sorted) in
    let told = gone_tells h events key uid n all found.passes in
    first_from h events key uid n told.0 all order found told.1 told.2 told.3

-- the places behind a version that may be those of its removal
pub behind_is : (h : past.History) (events : List LogEvent) (v : Version) (next : Option ℕ) (n : ℕ) (e : LogEvent) (range : Range) → IsFirstWithUid h.versions (version_of v)
    → IsFirst h (IsRemovalOf v.key v.uid) n (event_of e) → range.event ≡ n → range.low ≡ max (lowest h e.lo.0) v.revision + 1 → range.high ≡ min (highest h e.hi.0) (place_before next)
    → range.low ≤ range.high → IsRemovalBehind h (version_of v) next (removal_of v range)
behind_is h events v next n e range only first number low high some_place = record {
  only = only;
  event = event_of e;
  first = subst (λ k. IsFirst h (IsRemovalOf v.key v.uid) k (event_of e)) (sym number) first;
  of_key = refl;
  of_uid = refl;
  of_last = refl;
  low = low;
  high = high;
  some_place = some_place;
}

-- without a place there is no removal
pub behind_none : (h : past.History) (events : List LogEvent) (v : Version) (next : Option ℕ) (n : ℕ) (e : LogEvent) (removal : past.Removal)
    → ((m : ℕ) (x : event.Event) → IsFirst h (IsRemovalOf v.key v.uid) m x → (m ≡ n) × (x ≡ event_of e))
    → min (highest h e.hi.0) (place_before next) ≤ max (lowest h e.lo.0) v.revision → IsRemovalBehind h (version_of v) next removal → ⊥
behind_none h events v next n e removal only no_place behind =
    let one : behind.event ≡ event_of e = (only removal.range.event behind.event behind.first).1 in
    let low : removal.range.low ≡ max (lowest h e.lo.0) v.revision + 1 = behind.low ∙ ap (λ (x : event.Event). max (lowest h x.lo) v.revision + 1) one in
    let high : removal.range.high ≡ min (highest h e.hi.0) (place_before next) = behind.high ∙ ap (λ (x : event.Event). min (highest h x.hi) (place_before next)) one in
    let room = behind.some_place in
    omega arith

-- what is known of the first removal that was kept
pub kept_first : (windows : timed_history.History) (events : List LogEvent) (removed : RemovalNumbers) (h : past.History) (v : Version) (n : ℕ) (e : LogEvent)
    → HasLog windows events removed h → found_at removed v.key v.uid ≡ Some n → slice_get events n ≡ Some e
    → IsFirst h (IsRemovalOf v.key v.uid) n (event_of e) × ((m : ℕ) (x : event.Event) → IsFirst h (IsRemovalOf v.key v.uid) m x → (m ≡ n) × (x ≡ event_of e))
kept_first windows events removed h v n e log found at =
    let known = first_is h events v.key v.uid n log.all log.order (sym (log.removals v.key v.uid) ∙ found) in
    let same : known.0 ≡ e = same_Some known.0 e (sym known.1 ∙ at) in
    (subst (λ x. IsFirst h (IsRemovalOf v.key v.uid) n (event_of x)) same known.2, λ m x first. ((known.3 m x first).0, (known.3 m x first).1 ∙ ap event_of same))

pub kept_none : (windows : timed_history.History) (events : List LogEvent) (removed : RemovalNumbers) (h : past.History) (v : Version) (next : Option ℕ) (removal : past.Removal)
    → HasLog windows events removed h → found_at removed v.key v.uid ≡ None → IsRemovalBehind h (version_of v) next removal → ⊥
kept_none windows events removed h v next removal log none behind =
    none_removed h events v.key v.uid removal.range.event behind.event log.all log.order (sym (log.removals v.key v.uid) ∙ none) behind.first.known behind.first.holds

pub kept_there : (windows : timed_history.History) (events : List LogEvent) (removed : RemovalNumbers) (h : past.History) (v : Version) (n : ℕ)
    → HasLog windows events removed h → found_at removed v.key v.uid ≡ Some n → slice_get events n ≡ None → ⊥
kept_there windows events removed h v n log found none =
    let known = first_is h events v.key v.uid n log.all log.order (sym (log.removals v.key v.uid) ∙ found) in cc (sym known.1 ∙ none)
