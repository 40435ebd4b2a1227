-- What small closed histories need.
use Rattle.std.proofs.Common.{◌≡◌, ◌≢◌, ℕ, ℤ, zero, suc, ◌<◌, ◌≤◌, ◌≤ℤ◌, ◌<ℤ◌, ◌+◌, ◌-◌, min, max, bytes_eq, ◌⊎◌, Bool, true, false, not, ◌&&◌, nat_lt, int_lt, ◌==◌, List, [], ◌∷◌, length, map, take, slice_get, Option, Some, None, IsSome, AllPairs, Contains, inl, inr, refl, sym, ap, ap₂, ◌∙◌, subst, arith, true≢false}
use Rattle.std.specs.List.{AllZip, list_any}
use Rattle.std.specs.Cmp.Lexicographic.{bytes_decides}
use Rattle.std.proofs.lemmas.Int.{ints}
use Rattle.std.proofs.lemmas.Bool.Decides.{leb_tells}
use Rattle.std.proofs.lemmas.Option.{same_Some}
use Rattle.base_types.specs.Choices.{IsChoice}
use Rattle.base_types.specs.Reasons.{code_number}
use Rattle.base_types.specs.declared.verdict.claim.Range.{Range}
use Rattle.base_types.specs.declared.verdict.claim.Reason.{Reason}
use Rattle.base_types.specs.declared.kubernetes.key.ObjectKey.{ObjectKey}
use Rattle.base_types.specs.declared.verdict.placed.PlacedLine.{PlacedLine}
use Rattle.history_model.proofs.CutLemmas.{same_removal}
use Rattle.history_model.proofs.Fits.{same_event}
use Rattle.history_model.proofs.Global.{global_is, right_has_run}
use Rattle.history_model.proofs.JudgingLemmas.{judged_once}
use Rattle.history_model.proofs.KeyLemmas.{key_decides}
use Rattle.history_model.proofs.Members.{not_in_none, here, there, in_cons, all_from, pairs_cons}
use Rattle.history_model.proofs.StateLaw.{Stands, never, removed, stays, state_stands}
use Rattle.history_model.proofs.WordLemmas.{eq_test}
use Rattle.history_model.specs.Clouds.{IsClouded, MayBeUnrecorded}
use Rattle.history_model.specs.Codes.{HasCode, level, stage, stray, making, removal, found, answer, decision, IsCandidate, IsLeastCandidate}
use Rattle.history_model.specs.Events.{Text, Item, Event, Answer, Made, Removed, Opaque, Saw, SawNone, SawSome, SawOther, Listed, Free, Aside, Checkpoint, is_checkpoint, is_checkpoint_reading}
use Rattle.history_model.specs.Groups.{Making, IsMaking, IsFirstMaking, IsKeyOf, IsMember, Hides, IsSure, IsEnd, IsBeginning, IsSpan}
use Rattle.history_model.specs.Histories.{History, Span, Version, Removal, ByEvent, IsEvent, ranges}
use Rattle.history_model.specs.Incarnations.{IsRemoval, IsRemovalOf, AreRemovals, EndsBefore, place_before}
use Rattle.history_model.specs.Judging.{IsJudgedBefore, PrecedesByKind, IsOrder}
use Rattle.base_types.specs.Keys.{same_key}
use Rattle.history_model.specs.Local.{IsRightUnder, AreRightUpTo}
use Rattle.history_model.specs.Makers.{CouldHaveMade, MustHaveMade, IsMakerOf, sole, able, faulty, IsShowing, IsMadeVersion}
use Rattle.history_model.specs.Making.{outside, present, used, replaced, unmet, unasked, HasNoFault, HasFoundFault, creates, excludes, changes, IsUsedUid, IsOtherObject, IsEntryBefore, AreMet, MeetsConditions, tree_of}
use Rattle.history_model.specs.Outcomes.{IsEarliest, IsExplanation, Write, MadeAt, IsMadeAt, IsWriteIn}
use Rattle.history_model.specs.Placed.{IsPlacedLine, ArePlacedLines}
use Rattle.history_model.specs.Readable.{IsReadable}
use Rattle.history_model.specs.Right.{IsShown, answer_code}
use Rattle.history_model.specs.States.{cuts, state}
use Rattle.history_model.specs.Runs.{Placement, IsRunUpTo}
use Rattle.history_model.specs.Windows.{lowest, highest, last_place}
use Rattle.history_model.specs.Words.{At, word}

-- a fact of each item, as a tuple
abbrev pub Each : {X : Type 0} → (X → Type 0) → List X → Type 0
Each P [] = Unit {0}
Each P (x ∷ xs) = P x × Each P xs

pub each_of : {X : Type 0} (P : X → Type 0) (xs : List X) → Each P xs → (x : X) → Contains xs x → P x
each_of P [] f x c = absurd (not_in_none c)
each_of {X} P (y ∷ ys) f x c = go (each_of P ys f.1 x) (in_cons y ys x c)
  where
    go : (Contains ys x → P x) → (y ≡ x) ⊎ Contains ys x → P x
    go more (inl e) = subst P e f.0
    go more (inr d) = more d

-- a fact of each event with its number
abbrev pub EachAt : (ℕ → Event → Type 0) → List Event → Type 0
EachAt P [] = Unit {0}
EachAt P (e ∷ es) = P zero e × EachAt (λ n. P (suc n)) es

pub each_event : (P : ℕ → Event → Type 0) (es : List Event) → EachAt P es → (number : ℕ) (event : Event) → slice_get es number ≡ Some event → P number event
each_event P [] f number event k = absurd (cc k)
each_event P (e ∷ es) f zero event k = subst (λ z. P zero z) (same_Some e event k) f.0
each_event P (e ∷ es) f (suc n) event k = each_event (λ m. P (suc m)) es f.1 n event k

-- a fact of each write
abbrev pub OfAnswer : (Making → Type 0) → ℕ → Event → Answer → Type 0
OfAnswer P number event (Made item created) = P (record { number = number; event = event; item = item; created = created })
OfAnswer P number event (Removed key uid) = Unit {0}
OfAnswer P number event (Opaque cover) = Unit {0}
OfAnswer P number event (Saw item) = Unit {0}
OfAnswer P number event (SawNone key) = Unit {0}
OfAnswer P number event (SawSome key) = Unit {0}
OfAnswer P number event (SawOther key) = Unit {0}
OfAnswer P number event (Listed listing) = Unit {0}
OfAnswer P number event Free = Unit {0}
OfAnswer P number event Aside = Unit {0}

abbrev pub EachMaking : (Making → Type 0) → List Event → Type 0
EachMaking P es = EachAt (λ n e. OfAnswer P n e e.answer) es

pub each_making : (h : History) (P : Making → Type 0) → EachMaking P h.events → (m : Making) → IsMaking h m → P m
each_making h P f m k = subst (λ z. OfAnswer P m.number m.event z) k.made (each_event (λ n e. OfAnswer P n e e.answer) h.events f m.number m.event k.known)

-- tests of lists
abbrev above_all : ℕ → List ℕ → Bool
above_all x [] = true
above_all x (y ∷ ys) = nat_lt x y && above_all x ys

abbrev pub rises : List ℕ → Bool
rises [] = true
rises (x ∷ xs) = above_all x xs && rises xs

and_true : (x y : Bool) → (x && y) ≡ true → (x ≡ true) × (y ≡ true)
and_true true true e = (refl, refl)
and_true true false e = absurd (true≢false (sym e))
and_true false y e = absurd (true≢false (sym e))

lt_test : (x y : ℕ) → nat_lt x y ≡ true → x < y
lt_test x y e = go (leb_tells (suc x) y)
  where
    go : ((Rattle.std.proofs.Common.nat_le (suc x) y ≡ true) × (suc x ≤ y)) ⊎ ((Rattle.std.proofs.Common.nat_le (suc x) y ≡ false) × (y < suc x)) → x < y
    go (inl w) = w.1
    go (inr w) = absurd (true≢false (sym e ∙ w.0))

above_is : {X : Type 0} (f : X → ℕ) (x : X) (xs : List X) → above_all (f x) (map f xs) ≡ true → (y : X) → Contains xs y → f x < f y
above_is f x [] e y c = absurd (not_in_none c)
above_is {X} f x (z ∷ zs) e y c = go (above_is f x zs parts.1 y) (in_cons z zs y c)
  where
    parts : (nat_lt (f x) (f z) ≡ true) × (above_all (f x) (map f zs) ≡ true)
    parts = and_true (nat_lt (f x) (f z)) (above_all (f x) (map f zs)) e

    go : (Contains zs y → f x < f y) → (z ≡ y) ⊎ Contains zs y → f x < f y
    go more (inl q) = subst (λ w. f x < f w) q (lt_test (f x) (f z) parts.0)
    go more (inr d) = more d

pub rising_is : {X : Type 0} (f : X → ℕ) (xs : List X) → rises (map f xs) ≡ true → AllPairs (λ a b. f a < f b) xs
rising_is f [] e = λ i j d l m. absurd (omega arith)
rising_is f (x ∷ xs) e = pairs_cons (λ a b. f a < f b) x xs (all_from (λ y. f x < f y) xs (above_is f x xs parts.0)) (rising_is f xs parts.1)
  where
    parts : (above_all (f x) (map f xs) ≡ true) × (rises (map f xs) ≡ true)
    parts = and_true (above_all (f x) (map f xs)) (rises (map f xs)) e

-- the order of judgement of events that end at different moments
abbrev ends_before : Option Event → Option Event → Bool
ends_before None other = true
ends_before (Some x) None = true
ends_before (Some x) (Some y) = not (is_checkpoint x) && (not (is_checkpoint y) && int_lt x.hi y.hi)

abbrev ends_before_all : History → ℕ → List ℕ → Bool
ends_before_all h n [] = true
ends_before_all h n (m ∷ ms) = ends_before (slice_get h.events n) (slice_get h.events m) && ends_before_all h n ms

abbrev pub is_sorted : History → List ℕ → Bool
is_sorted h [] = true
is_sorted h (n ∷ ns) = ends_before_all h n ns && is_sorted h ns

abbrev pub has_below : ℕ → List ℕ → Bool
has_below zero xs = true
has_below (suc n) xs = list_any (λ x. x == n) xs && has_below n xs

any_in : (n : ℕ) (xs : List ℕ) → list_any (λ x. x == n) xs ≡ true → Contains xs n
any_in n [] e = absurd (true≢false (sym e))
any_in n (x ∷ xs) e = go (any_in n xs) (x == n) refl
  where
    go : (list_any (λ x. x == n) xs ≡ true → Contains xs n) → (t : Bool) → (x == n) ≡ t → Contains (x ∷ xs) n
    go more true q = subst (λ z. Contains (x ∷ xs) z) (eq_test x n q) (here x xs)
    go more false q = there x n xs (more (rw q at e))

below_in : (n : ℕ) (xs : List ℕ) → has_below n xs ≡ true → (m : ℕ) → m < n → Contains xs m
below_in zero xs e m l = absurd (omega (arith, l))
below_in (suc n) xs e m l = go (below_in n xs (and_true (list_any (λ x. x == n) xs) (has_below n xs) e).1 m) (grind arith)
  where
    go : (m < n → Contains xs m) → (m < n) ⊎ (n ≡ m) → Contains xs m
    go more (inl k) = more k
    go more (inr q) = subst (λ z. Contains xs z) q (any_in n xs (and_true (list_any (λ x. x == n) xs) (has_below n xs) e).0)

int_lt_is : (x y : ℤ) → int_lt x y ≡ true → x <ℤ y
int_lt_is x y e = grind (arith, ints)

not_is : (b : Bool) → not b ≡ true → b ≡ false
not_is true e = absurd (true≢false (sym e))
not_is false e = refl

judged_is : (x y : Event) → is_checkpoint x ≡ false → is_checkpoint y ≡ false → x.hi <ℤ y.hi → IsJudgedBefore x y
judged_is x y a b l = subst (λ z. PrecedesByKind z (is_checkpoint y) x y) (sym a) (subst (λ z. PrecedesByKind false z x y) (sym b) (inl l))

ends_is : (h : History) (n m : ℕ) → ends_before (slice_get h.events n) (slice_get h.events m) ≡ true → (x y : Event) → IsEvent h n x → IsEvent h m y → IsJudgedBefore x y
ends_is h n m e x y u v = judged_is x y (not_is (is_checkpoint x) p.0) (not_is (is_checkpoint y) q.0) (int_lt_is x.hi y.hi q.1)
  where
    f : (not (is_checkpoint x) && (not (is_checkpoint y) && int_lt x.hi y.hi)) ≡ true
    f = sym (ap₂ ends_before u v) ∙ e

    p : (not (is_checkpoint x) ≡ true) × ((not (is_checkpoint y) && int_lt x.hi y.hi) ≡ true)
    p = and_true (not (is_checkpoint x)) (not (is_checkpoint y) && int_lt x.hi y.hi) f

    q : (not (is_checkpoint y) ≡ true) × (int_lt x.hi y.hi ≡ true)
    q = and_true (not (is_checkpoint y)) (int_lt x.hi y.hi) p.1

ends_all_is : (h : History) (n : ℕ) (ms : List ℕ) → ends_before_all h n ms ≡ true → (m : ℕ) → Contains ms m → (x y : Event) → IsEvent h n x → IsEvent h m y → IsJudgedBefore x y
ends_all_is h n [] e m c = absurd (not_in_none c)
ends_all_is h n (k ∷ ks) e m c = go (ends_all_is h n ks parts.1 m) (in_cons k ks m c)
  where
    parts : (ends_before (slice_get h.events n) (slice_get h.events k) ≡ true) × (ends_before_all h n ks ≡ true)
    parts = and_true (ends_before (slice_get h.events n) (slice_get h.events k)) (ends_before_all h n ks) e

    go : (Contains ks m → (x y : Event) → IsEvent h n x → IsEvent h m y → IsJudgedBefore x y) → (k ≡ m) ⊎ Contains ks m → (x y : Event) → IsEvent h n x → IsEvent h m y → IsJudgedBefore x y
    go more (inl q) = subst (λ z. (x y : Event) → IsEvent h n x → IsEvent h z y → IsJudgedBefore x y) q (ends_is h n k parts.0)
    go more (inr d) = more d

sorted_is : (h : History) (ns : List ℕ) → is_sorted h ns ≡ true → AllPairs (λ a b. (x y : Event) → IsEvent h a x → IsEvent h b y → IsJudgedBefore x y) ns
sorted_is h [] e = λ i j d l m. absurd (omega arith)
sorted_is h (n ∷ ns) e = pairs_cons (λ a b. (x y : Event) → IsEvent h a x → IsEvent h b y → IsJudgedBefore x y) n ns
    (all_from (λ b. (x y : Event) → IsEvent h n x → IsEvent h b y → IsJudgedBefore x y) ns (ends_all_is h n ns parts.0)) (sorted_is h ns parts.1)
  where
    parts : (ends_before_all h n ns ≡ true) × (is_sorted h ns ≡ true)
    parts = and_true (ends_before_all h n ns) (is_sorted h ns) e

abbrev pub below_each : ℕ → List ℕ → Bool
below_each n [] = true
below_each n (x ∷ xs) = nat_lt x n && below_each n xs

below_is : (n : ℕ) (xs : List ℕ) → below_each n xs ≡ true → (m : ℕ) → Contains xs m → m < n
below_is n [] e m c = absurd (not_in_none c)
below_is n (x ∷ xs) e m c = go (below_is n xs parts.1 m) (in_cons x xs m c)
  where
    parts : (nat_lt x n ≡ true) × (below_each n xs ≡ true)
    parts = and_true (nat_lt x n) (below_each n xs) e

    go : (Contains xs m → m < n) → (x ≡ m) ⊎ Contains xs m → m < n
    go more (inl q) = subst (λ z. z < n) q (lt_test x n parts.0)
    go more (inr d) = more d

pub order_is : (h : History) → below_each (length h.events) h.order ≡ true → has_below (length h.events) h.order ≡ true → is_sorted h h.order ≡ true → IsOrder h
order_is h a b c = record { known = below_is (length h.events) h.order a; full = below_in (length h.events) h.order b; sorted = sorted_is h h.order c }

-- an event that ends no earlier isn't judged before
pub not_before : (o f : Event) → is_checkpoint o ≡ false → is_checkpoint f ≡ false → f.hi ≤ℤ o.hi → (o.hi ≡ f.hi → f.line ≤ o.line) → IsJudgedBefore o f → ⊥
not_before o f a b l e k = go (subst (λ z. PrecedesByKind z false o f) a (subst (λ z. PrecedesByKind (is_checkpoint o) z o f) b k))
  where
    go : PrecedesByKind false false o f → ⊥
    go (inl x) = omega (arith, ints)
    go (inr x) = omega (arith, e x.0, x.1)

-- what the group of a revision is: its first write, and of each other one that it belongs to the group and came no earlier
abbrev pub Follows : Making → Making → Type 0
Follows first o = (o.item.key ≡ first.item.key) × (first.event.hi ≤ℤ o.event.hi) × (first.event.lo ≤ℤ o.event.lo) × (IsJudgedBefore o.event first.event → ⊥)

abbrev pub IsGroup : History → Making → Type 0
IsGroup h first = (o : Making) → IsMaking h o → o.item.revision ≡ first.item.revision → Follows first o

module _ (h : History) (first : Making) (is : IsMaking h first) (group : IsGroup h first) where
  key_of : IsKeyOf h first.item.revision first.item.key
  key_of = record { m = first; first = record { holds = record { making = is; at_revision = refl }; none_before = λ o a. (group o a.making a.at_revision).3 }; of_key = refl }

  member_of : IsMember h first.item.key first.item.revision first
  member_of = record { making = is; of_key = refl; at_revision = refl }

  pub span_is : (span : Span) → h.start < first.item.revision → span.revision ≡ first.item.revision → span.lo ≡ first.event.lo → span.hi ≡ first.event.hi
      → (IsSure h first.item.key first.item.revision) ⊎ ((number : ℕ) (event : Event) → IsEvent h number event → Hides first.item.key event → ⊥) → IsSpan h span
  span_is span l r lo hi s = record {
    above = omega (arith, l, r);
    key = first.item.key;
    belongs = subst (λ z. IsKeyOf h z first.item.key) (sym r) key_of;
    end = ((first, member_at, sym hi), λ t x. subst (λ z. z ≤ℤ t) (sym hi) (end x));
    beginning = (inl (first, member_at, sym lo), λ t x. subst (λ z. z ≤ℤ t) (sym lo) (beginning x));
  }
    where
      member_at : IsMember h first.item.key span.revision first
      member_at = subst (λ z. IsMember h first.item.key z first) (sym r) member_of

      end : {t : ℤ} → IsEnd h first.item.key span.revision t → first.event.hi ≤ℤ t
      end (o, m, e) = subst (λ z. first.event.hi ≤ℤ z) e (group o m.making (m.at_revision ∙ r)).1

      beginning : {t : ℤ} → IsBeginning h first.item.key span.revision t → first.event.lo ≤ℤ t
      beginning (inl (o, m, e)) = subst (λ z. first.event.lo ≤ℤ z) e (group o m.making (m.at_revision ∙ r)).2
      beginning {t} (inr (n, (number, event, k, x, e))) = absurd (at s)
        where
          at : (IsSure h first.item.key first.item.revision) ⊎ ((number : ℕ) (event : Event) → IsEvent h number event → Hides first.item.key event → ⊥) → ⊥
          at (inl y) = n (subst (λ z. IsSure h first.item.key z) (sym r) y)
          at (inr y) = y number event k x

  first_of : (Holds : Making → Type 0) → ((m : Making) → Holds m → IsMember h first.item.key first.item.revision m) → Holds first → IsFirstMaking Holds first
  first_of Holds of x = record { holds = x; none_before = λ o y. (group o (of o y).making (of o y).at_revision).3 }

  made : (v : Version) → h.start < first.item.revision → v.key ≡ first.item.key → v.revision ≡ first.item.revision → v.uid ≡ first.item.uid → v.tree ≡ first.item.tree → v.maker ≡ ByEvent first.number
      → IsMakerOf h first.item.key first.item.revision v.maker → IsMadeVersion h v
  made v l k r u t m maker = record {
    above = omega (arith, l, r);
    belongs = subst (λ z. IsKeyOf h v.revision z) (sym k) (subst (λ z. IsKeyOf h z first.item.key) (sym r) key_of);
    maker = subst (λ z. IsMakerOf h z v.revision v.maker) (sym k) (subst (λ z. IsMakerOf h first.item.key z v.maker) (sym r) maker);
    m = first;
    shown = subst (λ z. IsShowing h v.key v.revision z first) (sym m) (subst (λ z. IsMember h z v.revision first) (sym k) (subst (λ z. IsMember h first.item.key z first) (sym r) member_of), refl);
    uid = u;
    tree = t;
  }

  -- a version whose first write must have made it
  pub made_sole : (v : Version) → h.start < first.item.revision → v.key ≡ first.item.key → v.revision ≡ first.item.revision → v.uid ≡ first.item.uid → v.tree ≡ first.item.tree → v.maker ≡ ByEvent first.number
      → (before : Option Version) → IsEntryBefore h first before → HasNoFault h first before → (code : Reason) → HasFoundFault h first code → IsMadeVersion h v
  made_sole v l k r u t m before e n code f = made v l k r u t m (sole first m (first_of (MustHaveMade h first.item.key first.item.revision) (λ x y. y.made.member)
      (record { made = record { member = member_of; before = before; entry = e; faultless = n }; code = code; not_found = f })))

  -- one that each could have found
  pub made_able : (v : Version) → h.start < first.item.revision → v.key ≡ first.item.key → v.revision ≡ first.item.revision → v.uid ≡ first.item.uid → v.tree ≡ first.item.tree → v.maker ≡ ByEvent first.number
      → (before : Option Version) → IsEntryBefore h first before → HasNoFault h first before → ((o : Making) → IsMaking h o → (code : Reason) → HasFoundFault h o code → ⊥) → IsMadeVersion h v
  made_able v l k r u t m before e n f = made v l k r u t m (able first m (λ o y. f o y.made.member.making y.code y.not_found)
      (first_of (CouldHaveMade h first.item.key first.item.revision) (λ x y. y.member) (record { member = member_of; before = before; entry = e; faultless = n })))

  -- one that none could have made
  pub made_faulty : (v : Version) → h.start < first.item.revision → v.key ≡ first.item.key → v.revision ≡ first.item.revision → v.uid ≡ first.item.uid → v.tree ≡ first.item.tree → v.maker ≡ ByEvent first.number
      → ((o : Making) → CouldHaveMade h first.item.key first.item.revision o → ⊥) → (MayBeUnrecorded h first.item.key first.item.revision → ⊥) → IsMadeVersion h v
  made_faulty v l k r u t m n u' = made v l k r u t m (faulty first m n u' (first_of (IsMember h first.item.key first.item.revision) (λ x y. y) member_of))

-- a write without a fault
pub no_fault : (h : History) (m : Making) (before : Option Version) → lowest h m.event.lo < m.item.revision → m.item.revision ≤ highest h m.event.hi
    → (m.created ≡ true → IsSome before → ⊥) → (m.created ≡ true → IsUsedUid h m → ⊥) → (m.created ≡ false → IsOtherObject m before → ⊥) → MeetsConditions m.event.conditions before
    → h.body m.number (tree_of before) ≡ true → HasNoFault h m before
no_fault h m before l u p s o c b code (outside e (inl x)) = omega (arith, l, x)
no_fault h m before l u p s o c b code (outside e (inr x)) = omega (arith, u, x)
no_fault h m before l u p s o c b code (present e k t x) = p t x
no_fault h m before l u p s o c b code (used e t x) = s t x
no_fault h m before l u p s o c b code (replaced e k f x) = o f x
no_fault h m before l u p s o c b code (unmet e k x) = x c
no_fault h m before l u p s o c b code (unasked e k x) = true≢false (sym b ∙ x)

-- the same of a write of a clouded key
pub no_fault_clouded : (h : History) (m : Making) (before : Option Version) → lowest h m.event.lo < m.item.revision → m.item.revision ≤ highest h m.event.hi
    → m.created ≡ false → IsClouded h m.item.key (m.item.revision - 1) → HasNoFault h m before
no_fault_clouded h m before l u f c code (outside e (inl x)) = omega (arith, l, x)
no_fault_clouded h m before l u f c code (outside e (inr x)) = omega (arith, u, x)
no_fault_clouded h m before l u f c code (present e k t x) = k c
no_fault_clouded h m before l u f c code (used e t x) = true≢false (sym t ∙ f)
no_fault_clouded h m before l u f c code (replaced e k g x) = k c
no_fault_clouded h m before l u f c code (unmet e k x) = k c
no_fault_clouded h m before l u f c code (unasked e k x) = k c

-- histories without removals
pub no_removals : (h : History) → h.removals ≡ [] → EachAt (λ n e. (key : ObjectKey) (uid : Text) → e.answer ≡ Removed key uid → ⊥) h.events → AreRemovals h
no_removals h e f = record {
  rising = subst (λ xs. AllPairs (λ x y. x.range.event < y.range.event) xs) (sym e) (λ i j d l m. absurd (omega arith));
  sound = λ r c. absurd (not_in_none (subst (λ xs. Contains xs r) e c));
  full = λ r i. absurd (each_event (λ n e. (key : ObjectKey) (uid : Text) → e.answer ≡ Removed key uid → ⊥) h.events f r.range.event i.behind.event i.behind.first.known i.version.key i.version.uid i.behind.first.holds);
}

pub no_checkpoints : (h : History) → EachAt (λ n e. is_checkpoint e ≡ false) h.events → (number : ℕ) (event : Event) (revision : ℕ) → IsEvent h number event → event.reading ≡ Checkpoint revision → h.start ≤ revision
no_checkpoints h f number event revision k e = absurd (true≢false (sym (ap is_checkpoint_reading e) ∙ each_event (λ n e. is_checkpoint e ≡ false) h.events f number event k))

-- keys that the test tells apart
pub other_key : (x y : ObjectKey) → same_key x y ≡ false → x ≡ y → ⊥
other_key x y e p = true≢false (sym ((key_decides x y).1 p) ∙ e)

-- a log that a choice explains; its places are the least ones of the ranges
pub explanation : (h : History) (choice : List ℕ) (lines : List PlacedLine) → IsReadable h → IsChoice (ranges h) choice
    → EachAt (λ n e. IsRightUnder h choice n e) h.events → ((other : List ℕ) → IsChoice (ranges h) other → AllZip ◌≤◌ choice other)
    → ArePlacedLines h choice lines → IsExplanation h lines
explanation h choice lines r chosen right least placed = go (right_has_run h (length h.order) choice r chosen (λ n e j k. each_event (λ n e. IsRightUnder h choice n e) h.events right n e k))
  where
    go : (p : Placement) × IsRunUpTo h (length h.order) p × (p.choice ≡ choice) → IsExplanation h lines
    go (p, run, e) = record { choice = choice; least = record { p = p; run = run; chosen = e; least = λ other o. least other.choice o.placed.chosen }; placed = placed }

-- lines of events, one by one
abbrev pub EachLine : (ℕ → Event → PlacedLine → Type 0) → List Event → List PlacedLine → Type 0
EachLine P [] [] = Unit {0}
EachLine P [] (l ∷ ls) = ⊥
EachLine P (e ∷ es) [] = ⊥
EachLine P (e ∷ es) (l ∷ ls) = P zero e l × EachLine (λ n. P (suc n)) es ls

pub lines_long : (P : ℕ → Event → PlacedLine → Type 0) (es : List Event) (ls : List PlacedLine) → EachLine P es ls → length ls ≡ length es
lines_long P [] [] f = refl
lines_long P [] (l ∷ ls) f = absurd f
lines_long P (e ∷ es) [] f = absurd f
lines_long P (e ∷ es) (l ∷ ls) f = ap suc (lines_long (λ n. P (suc n)) es ls f.1)

pub lines_at : (P : ℕ → Event → PlacedLine → Type 0) (es : List Event) (ls : List PlacedLine) → EachLine P es ls
    → (number : ℕ) (event : Event) (line : PlacedLine) → slice_get es number ≡ Some event → slice_get ls number ≡ Some line → P number event line
lines_at P [] ls f number event line k q = absurd (cc k)
lines_at P (e ∷ es) [] f number event line k q = absurd f
lines_at P (e ∷ es) (l ∷ ls) f zero event line k q = subst (λ z. P zero z line) (same_Some e event k) (subst (λ z. P zero e z) (same_Some l line q) f.0)
lines_at P (e ∷ es) (l ∷ ls) f (suc n) event line k q = lines_at (λ m. P (suc m)) es ls f.1 n event line k q

pub lines_are : (h : History) (choice : List ℕ) (lines : List PlacedLine) → EachLine (λ n e l. IsPlacedLine h choice n e l) h.events lines → ArePlacedLines h choice lines
lines_are h choice lines f = record { all = lines_long (λ n e l. IsPlacedLine h choice n e l) h.events lines f; each = lines_at (λ n e l. IsPlacedLine h choice n e l) h.events lines f }

-- the earliest event that isn't explained, after events that a choice explains
pub earliest : (h : History) (choice : List ℕ) (before number : ℕ) (event : Event) (code : Reason) → IsReadable h → IsEvent h number event → slice_get h.order before ≡ Some number
    → IsChoice (ranges h) choice → AreRightUpTo h before choice
    → ((other : List ℕ) → IsChoice (ranges h) other → AreRightUpTo h before other → IsRightUnder h other number event → ⊥) → IsLeastCandidate h before number event code → IsEarliest h number event code
earliest h choice before number event code r known at chosen right wrong least = record {
  known = known;
  before = before;
  found = at;
  explained = (global_is h before r).1 (choice, chosen, right);
  unexplained = λ x. go ((global_is h (before + 1) r).0 x);
  least = least;
}
  where
    go : (other : List ℕ) × IsChoice (ranges h) other × AreRightUpTo h (before + 1) other → ⊥
    go (other, c, f) = wrong other c (λ n e j k. f n e (rw Rattle.std.proofs.Common.add-one (Rattle.history_model.proofs.OutcomeLaw.take_more_in h.order before (suc before) n (omega arith) j)) k)
        (f number event (rw Rattle.std.proofs.Common.add-one (Rattle.history_model.proofs.OutcomeLaw.next_in h.order before number at)) known)

-- a reader has the code of its answer alone
pub reader_code : (h : History) (number : ℕ) (event : Event) (code : Reason) → event.other_level ≡ false → event.omitted_stage ≡ false → event.decision ≡ None → word h number event ≡ At
    → ((item : Item) (created : Bool) → event.answer ≡ Made item created → ⊥) → HasCode h number event code → code ≡ answer_code event.answer
reader_code h number event code l s d w m (level c e) = absurd (true≢false (sym e ∙ l))
reader_code h number event code l s d w m (stage c e) = absurd (true≢false (sym e ∙ s))
reader_code h number event code l s d w m (stray c e) = absurd (cc (w, e))
reader_code h number event code l s d w m (making k before e x f) = absurd (cc (w, e))
reader_code h number event code l s d w m (removal k c e x) = absurd (cc (w, e))
reader_code h number event code l s d w m (found item created e a x f) = absurd (m item created a)
reader_code h number event code l s d w m (answer c e x) = c
reader_code h number event code l s d w m (decision k c e x) = absurd (cc (d, e))

pub reader_least : (h : History) (before number : ℕ) (event : Event) → event.other_level ≡ false → event.omitted_stage ≡ false → event.decision ≡ None → word h number event ≡ At
    → ((item : Item) (created : Bool) → event.answer ≡ Made item created → ⊥) → IsCandidate h before number event (answer_code event.answer) → IsLeastCandidate h before number event (answer_code event.answer)
reader_least h before number event l s d w m c = record { candidate = c; least = least }
  where
    least : (other : Reason) → IsCandidate h before number event other → code_number (answer_code event.answer) ≤ code_number other
    least other (inl x) = omega (arith, ap code_number (reader_code h number event other l s d w m x))
    least other (inr x) = omega (arith, ap code_number x.0)

-- the one place of a choice for one range
pub one_place : (range : Range) (choice : List ℕ) → IsChoice (range ∷ []) choice → (place : ℕ) × (choice ≡ place ∷ []) × (range.low ≤ place) × (place ≤ range.high)
one_place range [] c = absurd c
one_place range (x ∷ []) c = (x, refl, c.0.0, c.0.1)
one_place range (x ∷ y ∷ ys) c = absurd c.1

pub no_place : (choice : List ℕ) → IsChoice [] choice → choice ≡ []
no_place [] c = refl
no_place (x ∷ xs) c = absurd c

-- a shown version isn't above its place
pub shown_above : (h : History) (choice : List ℕ) (place : ℕ) (item : Item) (key : ObjectKey) → IsShown item (state h choice place key) → item.revision ≤ place
shown_above h choice place item key s = go (state h choice place key) (state_stands h choice place key) s
  where
    go : (o : Option Version) → Stands h (cuts h.removals choice) key place o → IsShown item o → item.revision ≤ place
    go o (never l) x = absurd x
    go o (removed v cut l c e b) x = absurd x
    go o (stays v l k) x = omega (arith, l.2, x.0)

-- without unrecorded writes there are no clouds
pub never_clouded : (h : History) → EachAt (λ n e. (key : ObjectKey) → Hides key e → ⊥) h.events → (key : ObjectKey) (place : ℕ) → IsClouded h key place → ⊥
never_clouded h f key place (n, e, k, x) = each_event (λ n e. (key : ObjectKey) → Hides key e → ⊥) h.events f n e k key x.hides

pub right_for : (h : History) (choice : List ℕ) (number : ℕ) (e : Event) → IsEvent h number e → IsRightUnder h choice number e → (event : Event) → IsEvent h number event → IsRightUnder h choice number event
right_for h choice number e k x event l = subst (λ z. IsRightUnder h choice number z) (same_event h number e event k l) x

-- a revision among the writes of a window
pub made_in : (h : History) (low high : ℕ) (v : Version) (m : Making) → Contains h.versions v → h.start < v.revision → low ≤ v.revision → v.revision ≤ high → IsShowing h v.key v.revision v.maker m
    → IsWriteIn h low high (MadeAt v.revision m.event.line v.key)
made_in h low high v m c s l u x = record { version = v; known = c; above = s; inside = (l, u); of_revision = refl; of_key = refl; m = m; shown = x; of_line = refl }

pub made_line : (h : History) (low high revision line : ℕ) (key : ObjectKey) (v : Version) (number : ℕ) (e : Event) → v.maker ≡ ByEvent number → IsEvent h number e
    → (w : IsMadeAt h low high revision line key) → w.version ≡ v → MadeAt v.revision e.line v.key ≡ MadeAt revision line key
made_line h low high revision line key v number e maker k w same = λ i. MadeAt (revisions i) (lines i) (keys i)
  where
    revisions : v.revision ≡ revision
    revisions = ap (λ (z : Version). z.revision) (sym same) ∙ sym w.of_revision

    keys : v.key ≡ key
    keys = ap (λ (z : Version). z.key) (sym same) ∙ sym w.of_key

    shown : IsShowing h w.version.key w.version.revision (ByEvent number) w.m
    shown = subst (λ z. IsShowing h w.version.key w.version.revision z w.m) (ap (λ (z : Version). z.maker) same ∙ maker) w.shown

    lines : e.line ≡ line
    lines = ap (λ (z : Event). z.line) (same_event h number e w.m.event k (subst (λ z. IsEvent h z w.m.event) shown.1 shown.0.making.known)) ∙ sym w.of_line

pub listed_at : (x y : Write) (xs : List Write) → x ≡ y → Contains (x ∷ xs) y
listed_at x y xs e = subst (λ z. Contains (x ∷ xs) z) e (here x xs)

-- no fault of finding: not created, the conditions met, the body right
pub could_find : (h : History) (m : Making) → m.created ≡ false → AreMet m.event.conditions m.item.revision m.item.uid → h.body m.number (Some m.item.tree) ≡ true → (code : Reason) → HasFoundFault h m code → ⊥
could_find h m f c b code (creates e t) = true≢false (sym t ∙ f)
could_find h m f c b code (excludes e n) = n c
could_find h m f c b code (changes e n) = true≢false (sym b ∙ n)

-- an object that is there is one of the key's versions
pub state_in : (h : History) (choice : List ℕ) (place : ℕ) (key : ObjectKey) → (state h choice place key ≡ None)
    ⊎ ((v : Version) × (state h choice place key ≡ Some v) × Contains h.versions v × (v.key ≡ key) × (v.revision ≤ place))
state_in h choice place key = go (state h choice place key) (state_stands h choice place key)
  where
    go : (o : Option Version) → Stands h (cuts h.removals choice) key place o → (o ≡ None) ⊎ ((v : Version) × (o ≡ Some v) × Contains h.versions v × (v.key ≡ key) × (v.revision ≤ place))
    go o (never l) = inl refl
    go o (removed v cut l c e b) = inl refl
    go o (stays v l k) = inr (v, refl, l.0, l.1, l.2)

-- texts that the test tells apart
pub other_text : (x y : Text) → bytes_eq x y ≡ false → x ≡ y → ⊥
other_text x y e q = true≢false (sym ((bytes_decides x y).1 q) ∙ e)

-- a history with one removal, of a key with one version
pub one_removal_is : (h : History) (r0 : Removal) (v : Version) (event : Event) → h.removals ≡ r0 ∷ [] → Contains h.versions v → Each (λ w. w.key ≡ v.key → w ≡ v) h.versions
    → IsEvent h r0.range.event event → event.answer ≡ Removed v.key v.uid
    → EachAt (λ n e. (key : ObjectKey) (uid : Text) → e.answer ≡ Removed key uid → (n ≡ r0.range.event) × (key ≡ v.key) × (uid ≡ v.uid)) h.events
    → r0.key ≡ v.key → r0.uid ≡ v.uid → r0.last ≡ v.revision
    → r0.range.low ≡ max (lowest h event.lo) v.revision + 1 → r0.range.high ≡ min (highest h event.hi) last_place → r0.range.low ≤ r0.range.high → AreRemovals h
one_removal_is h r0 v event listed known alone is holds others k u l low high some_place = record {
  rising = subst (λ xs. AllPairs (λ x y. x.range.event < y.range.event) xs) (sym listed) (λ i j d a b. absurd (omega (arith, a, b)));
  sound = λ r c. subst (λ z. IsRemoval h z) (at r (in_cons r0 [] r (subst (λ xs. Contains xs r) listed c))) sound;
  full = λ r i. subst (λ xs. Contains xs r) (sym listed) (subst (λ z. Contains (r0 ∷ []) z) (same r i) (here r0 []));
}
  where
    at : (r : Removal) → (r0 ≡ r) ⊎ Contains [] r → r0 ≡ r
    at r (inl e) = e
    at r (inr c) = absurd (not_in_none c)

    lone : (w : Version) → Contains h.versions w → w.key ≡ v.key → w ≡ v
    lone = each_of (λ w. w.key ≡ v.key → w ≡ v) h.versions alone

    sound : IsRemoval h r0
    sound = record {
      version = v;
      next = None;
      known = known;
      ends = λ w c e. omega (arith, ap (λ (z : Version). z.revision) (lone w c e));
      behind = record {
        only = λ w between c e f d g x y. ap (λ (z : Version). z.uid) (lone between d g);
        event = event;
        first = record { known = is; holds = holds; none_before = λ n o x y z. judged_once o o (subst (λ w. IsJudgedBefore o w) (sym (first n o x y)) z) (subst (λ w. IsJudgedBefore o w) (sym (first n o x y)) z) };
        of_key = k;
        of_uid = u;
        of_last = l;
        low = low;
        high = high;
        some_place = some_place;
      };
    }
      where
        first : (n : ℕ) (o : Event) → IsEvent h n o → IsRemovalOf v.key v.uid o → o ≡ event
        first n o x y = same_event h r0.range.event o event (subst (λ z. IsEvent h z o) (each_event (λ n e. (key : ObjectKey) (uid : Text) → e.answer ≡ Removed key uid → (n ≡ r0.range.event) × (key ≡ v.key) × (uid ≡ v.uid)) h.events others n o x v.key v.uid y).0 x) is

    same : (r : Removal) → IsRemoval h r → r0 ≡ r
    same r i = same_removal r0 r (k ∙ ap (λ (z : Version). z.key) (sym version) ∙ sym i.behind.of_key) (u ∙ ap (λ (z : Version). z.uid) (sym version) ∙ sym i.behind.of_uid)
        (l ∙ ap (λ (z : Version). z.revision) (sym version) ∙ sym i.behind.of_last) (sym facts.0)
        (low ∙ ap₂ (λ (x : Event) (z : Version). max (lowest h x.lo) z.revision + 1) (sym events) (sym version) ∙ sym i.behind.low)
        (high ∙ ap₂ (λ (x : Event) z. min (highest h x.hi) (place_before z)) (sym events) (sym next) ∙ sym i.behind.high)
      where
        facts : (r.range.event ≡ r0.range.event) × (i.version.key ≡ v.key) × (i.version.uid ≡ v.uid)
        facts = each_event (λ n e. (key : ObjectKey) (uid : Text) → e.answer ≡ Removed key uid → (n ≡ r0.range.event) × (key ≡ v.key) × (uid ≡ v.uid)) h.events others r.range.event i.behind.event i.behind.first.known i.version.key i.version.uid i.behind.first.holds

        version : i.version ≡ v
        version = lone i.version i.known facts.1

        events : i.behind.event ≡ event
        events = same_event h r0.range.event i.behind.event event (subst (λ z. IsEvent h z i.behind.event) facts.0 i.behind.first.known) is

        next : i.next ≡ None
        next = go i.next i.ends
          where
            go : (n : Option ℕ) → EndsBefore h.versions i.version n → n ≡ None
            go None e = refl
            go (Some n) e = absurd (by e.1)
              where
                by : (w : Version) × Contains h.versions w × (w.revision ≡ n) × (w.key ≡ i.version.key) × (w.uid ≢ i.version.uid) → ⊥
                by (w, c, q, key, uid) = uid (ap (λ (z : Version). z.uid) (lone w c (key ∙ facts.1)) ∙ sym facts.2)

-- rights of the events that are judged
pub judged_right : (h : History) (n : ℕ) (choice : List ℕ) → Each (λ number. (event : Event) → IsEvent h number event → IsRightUnder h choice number event) (take n h.order) → AreRightUpTo h n choice
judged_right h n choice f number event j k = each_of (λ number. (event : Event) → IsEvent h number event → IsRightUnder h choice number event) (take n h.order) f number j event k
