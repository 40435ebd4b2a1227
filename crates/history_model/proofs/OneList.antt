-- A setup and a log have one order, one list of spans, one of versions and one of removals.
use Rattle.std.proofs.Common.{◌≡◌, ℕ, ℤ, zero, suc, ◌<◌, ◌≤◌, ◌≤ℤ◌, ◌+◌, ◌-◌, max, min, ◌⊎◌, false, if◌then◌else◌, nat_le, ◌&&◌, List, length, Option, Some, None, AllPairs, Contains, inl, inr, refl, sym, ap, ap₂, ◌∙◌, subst, arith}
use Rattle.std.proofs.lemmas.Int.{ints}
use Rattle.base_types.specs.declared.verdict.claim.Reason.{Reason}
use Rattle.base_types.specs.declared.kubernetes.key.ObjectKey.{ObjectKey}
use Rattle.history_model.proofs.JudgingLemmas.{judged_cases, judged_once}
use Rattle.history_model.proofs.Latest.{latest_is, latest_same}
use Rattle.history_model.proofs.Members.{at_apart}
use Rattle.history_model.proofs.OutcomeLaw.{get_within}
use Rattle.history_model.proofs.SameSorted.{same_sorted}
use Rattle.history_model.proofs.WordLemmas.{same_making}
use Rattle.history_model.specs.Clouds.{IsClouded, MayBeUnrecorded}
use Rattle.history_model.specs.Events.{Item, Event, Reading, MostRecent, AnyVersion, NotOlderThan, Exactly, Checkpoint}
use Rattle.history_model.specs.Groups.{Making, IsMaking, IsFirstMaking, IsAnsweredWith, IsKeyOf, IsMember, IsSure, IsEnd, IsBeginning, IsLeastMoment, IsSpan}
use Rattle.history_model.specs.Histories.{History, Span, Version, Removal, Maker, Snapshot, ByEvent, Unknown, IsEvent}
use Rattle.history_model.specs.Incarnations.{EndsBefore, IsFirstWithUid, IsRemovalOf, IsRemovalBehind, IsRemoval, place_before}
use Rattle.history_model.specs.Judging.{IsJudgedBefore, IsFirst}
use Rattle.history_model.specs.Makers.{CouldHaveMade, MustHaveMade, IsMakerOf, sole, able, unrecorded, faulty, IsShowing, IsMadeVersion, IsSnapshotVersion, item_of}
use Rattle.history_model.specs.Making.{IsOutOfReach, HasFault, outside, present, used, replaced, unmet, unasked, HasFoundFault, creates, excludes, changes, IsClear, IsAnew, IsEntryAfter, IsEntryBefore}
use Rattle.history_model.specs.Readable.{IsReadable, HaveOneLog}
use Rattle.history_model.specs.States.{latest, IsLatest}
use Rattle.history_model.specs.Windows.{lowest, highest, lowest_of, highest_of, low_end, high_end, low_end_of, high_end_of}

-- one log
pub log_back : (g h : History) → HaveOneLog g h → HaveOneLog h g
log_back g h s = record { start = sym s.start; snapshot = sym s.snapshot; events = sym s.events; body = sym s.body }

event_moves : (g h : History) → HaveOneLog g h → (n : ℕ) (e : Event) → IsEvent g n e → IsEvent h n e
event_moves g h s n e k = subst (λ xs. Rattle.std.proofs.Common.slice_get xs n ≡ Some e) s.events k

making_moves : (g h : History) → HaveOneLog g h → (m : Making) → IsMaking g m → IsMaking h m
making_moves g h s m k = record { known = event_moves g h s m.number m.event k.known; made = k.made }

first_moves : (P Q : Making → Type 0) → ((m : Making) → P m → Q m) → ((m : Making) → Q m → P m) → (m : Making) → IsFirstMaking P m → IsFirstMaking Q m
first_moves P Q to back m f = record { holds = to m f.holds; none_before = λ o q. f.none_before o (back o q) }

answered_moves : (g h : History) → HaveOneLog g h → (revision : ℕ) (m : Making) → IsAnsweredWith g revision m → IsAnsweredWith h revision m
answered_moves g h s revision m k = record { making = making_moves g h s m k.making; at_revision = k.at_revision }

key_moves : (g h : History) → HaveOneLog g h → (revision : ℕ) (key : ObjectKey) → IsKeyOf g revision key → IsKeyOf h revision key
key_moves g h s revision key k = record {
  m = k.m;
  first = first_moves (IsAnsweredWith g revision) (IsAnsweredWith h revision) (answered_moves g h s revision) (answered_moves h g (log_back g h s) revision) k.m k.first;
  of_key = k.of_key;
}

member_moves : (g h : History) → HaveOneLog g h → (key : ObjectKey) (revision : ℕ) (m : Making) → IsMember g key revision m → IsMember h key revision m
member_moves g h s key revision m k = record { making = making_moves g h s m k.making; of_key = k.of_key; at_revision = k.at_revision }

first_member_moves : (g h : History) → HaveOneLog g h → (key : ObjectKey) (revision : ℕ) (m : Making) → IsFirstMaking (IsMember g key revision) m → IsFirstMaking (IsMember h key revision) m
first_member_moves g h s key revision m f = first_moves (IsMember g key revision) (IsMember h key revision) (member_moves g h s key revision) (member_moves h g (log_back g h s) key revision) m f

-- first writes are one
pub first_making_same : (h : History) (P : Making → Type 0) (m w : Making) → IsReadable h → ((x : Making) → P x → IsMaking h x) → IsFirstMaking P m → IsFirstMaking P w → m.number ≡ w.number
first_making_same h P m w r of f k = go (judged_cases m.event w.event)
  where
    go : IsJudgedBefore m.event w.event ⊎ IsJudgedBefore w.event m.event ⊎ (m.event.line ≡ w.event.line) → m.number ≡ w.number
    go (inl l) = absurd (k.none_before m f.holds l)
    go (inr (inl l)) = absurd (f.none_before w k.holds l)
    go (inr (inr e)) = at_apart (λ (x : Event). x.line) h.events m.number w.number m.event w.event r.lines (of m f.holds).known (of w k.holds).known e

pub key_same : (h : History) (revision : ℕ) (a b : ObjectKey) → IsReadable h → IsKeyOf h revision a → IsKeyOf h revision b → a ≡ b
key_same h revision a b r x y = sym x.of_key ∙ ap (λ (z : Item). z.key) (same_making h x.m y.m x.first.holds.making y.first.holds.making
    (first_making_same h (IsAnsweredWith h revision) x.m y.m r (λ m k. k.making) x.first y.first)).1 ∙ y.of_key

-- the order of judgement
order_same : (g h : History) → HaveOneLog g h → IsReadable g → IsReadable h → g.order ≡ h.order
order_same g h s r q = same_sorted R g.order h.order once r.order.sorted sorted (λ x c. q.order.full x (to x (r.order.known x c))) (λ x c. r.order.full x (back x (q.order.known x c)))
  where
    R : ℕ → ℕ → Type 0
    R a b = (x y : Event) → IsEvent g a x → IsEvent g b y → IsJudgedBefore x y

    sorted : AllPairs (λ a b. (x y : Event) → IsEvent g a x → IsEvent g b y → IsJudgedBefore x y) h.order
    sorted = λ i j d l m x y u v. q.order.sorted i j d l m x y (event_moves g h s _ x u) (event_moves g h s _ y v)

    to : (x : ℕ) → x < length g.events → x < length h.events
    to x l = subst (λ (xs : List Event). x < length xs) s.events l

    back : (x : ℕ) → x < length h.events → x < length g.events
    back x l = subst (λ (xs : List Event). x < length xs) (sym s.events) l

    once : (a b : ℕ) → Contains g.order a → Contains g.order b → ((x y : Event) → IsEvent g a x → IsEvent g b y → IsJudgedBefore x y)
        → ((x y : Event) → IsEvent g b x → IsEvent g a y → IsJudgedBefore x y) → ⊥
    once a b c d f k = go (get_within g.events a (r.order.known a c)) (get_within g.events b (r.order.known b d))
      where
        go : (x : Event) × IsEvent g a x → (y : Event) × IsEvent g b y → ⊥
        go (x, u) (y, v) = judged_once x y (f x y u v) (k y x v u)

-- the spans
sure_moves : (g h : History) → HaveOneLog g h → (key : ObjectKey) (revision : ℕ) → IsSure g key revision → IsSure h key revision
sure_moves g h s key revision (m, k, x) = (m, member_moves g h s key revision m k, x)

end_moves : (g h : History) → HaveOneLog g h → (key : ObjectKey) (revision : ℕ) (at : ℤ) → IsEnd g key revision at → IsEnd h key revision at
end_moves g h s key revision at (m, k, x) = (m, member_moves g h s key revision m k, x)

beginning_moves : (g h : History) → HaveOneLog g h → (key : ObjectKey) (revision : ℕ) (at : ℤ) → IsBeginning g key revision at → IsBeginning h key revision at
beginning_moves g h s key revision at (inl (m, k, x)) = inl (m, member_moves g h s key revision m k, x)
beginning_moves g h s key revision at (inr (n, (number, event, k, x, e))) = inr (λ z. n (sure_moves h g (log_back g h s) key revision z), (number, event, event_moves g h s number event k, x, e))

least_moment_same : (P Q : ℤ → Type 0) (a b : ℤ) → ((x : ℤ) → P x → Q x) → ((x : ℤ) → Q x → P x) → IsLeastMoment P a → IsLeastMoment Q b → a ≡ b
least_moment_same P Q a b to back x y = both (x.1 b (back b y.0)) (y.1 a (to a x.0))
  where
    both : a ≤ℤ b → b ≤ℤ a → a ≡ b
    both l m = omega (arith, ints)

spans_in : (g h : History) → HaveOneLog g h → IsReadable g → IsReadable h → (span : Span) → Contains g.spans span → Contains h.spans span
spans_in g h s r q span c = go (r.spans.sound span c)
  where
    go : IsSpan g span → Contains h.spans span
    go x = at (q.spans.full k.m k.first.holds.making (subst (λ z. h.start < z) (sym k.first.holds.at_revision) (subst (λ z. z < span.revision) s.start x.above)))
      where
        k : IsKeyOf h span.revision x.key
        k = key_moves g h s span.revision x.key x.belongs

        at : (other : Span) × Contains h.spans other × (other.revision ≡ k.m.item.revision) → Contains h.spans span
        at (other, d, e) = by (q.spans.sound other d)
          where
            revision : other.revision ≡ span.revision
            revision = e ∙ k.first.holds.at_revision

            by : IsSpan h other → Contains h.spans span
            by y = subst (λ z. Contains h.spans z) same d
              where
                key : y.key ≡ x.key
                key = key_same h span.revision y.key x.key q (subst (λ z. IsKeyOf h z y.key) revision y.belongs) k

                end : other.hi ≡ span.hi
                end = sym (least_moment_same (IsEnd g x.key span.revision) (IsEnd h x.key span.revision) span.hi other.hi (end_moves g h s x.key span.revision) (end_moves h g (log_back g h s) x.key span.revision) x.end
                    (subst (λ z. IsLeastMoment (IsEnd h z span.revision) other.hi) key (subst (λ z. IsLeastMoment (IsEnd h y.key z) other.hi) revision y.end)))

                beginning : other.lo ≡ span.lo
                beginning = sym (least_moment_same (IsBeginning g x.key span.revision) (IsBeginning h x.key span.revision) span.lo other.lo (beginning_moves g h s x.key span.revision) (beginning_moves h g (log_back g h s) x.key span.revision) x.beginning
                    (subst (λ z. IsLeastMoment (IsBeginning h z span.revision) other.lo) key (subst (λ z. IsLeastMoment (IsBeginning h y.key z) other.lo) revision y.beginning)))

                same : other ≡ span
                same = λ i. record { revision = revision i; lo = beginning i; hi = end i }

spans_same : (g h : History) → HaveOneLog g h → IsReadable g → IsReadable h → g.spans ≡ h.spans
spans_same g h s r q = same_sorted (λ a b. a.revision < b.revision) g.spans h.spans (λ a b c d x y. omega (arith, x, y)) r.spans.rising q.spans.rising
    (spans_in g h s r q) (spans_in h g (log_back g h s) q r)

-- two histories of one log, with one list of spans, whose versions below m are the same
record Agree (g h : History) (m : ℕ) : Type 0 where
  log : HaveOneLog g h
  spans : g.spans ≡ h.spans
  rising : AllPairs (λ v w. v.revision < w.revision) g.versions
  rising' : AllPairs (λ v w. v.revision < w.revision) h.versions
  to : (v : Version) → v.revision < m → Contains g.versions v → Contains h.versions v
  back : (v : Version) → v.revision < m → Contains h.versions v → Contains g.versions v

agree_back : (g h : History) (m : ℕ) → Agree g h m → Agree h g m
agree_back g h m a = record { log = log_back g h a.log; spans = sym a.spans; rising = a.rising'; rising' = a.rising; to = a.back; back = a.to }

lowest_is : (g h : History) (m : ℕ) → Agree g h m → (at : ℤ) → lowest g at ≡ lowest h at
lowest_is g h m a at = ap (λ x. lowest_of x g.spans at) a.log.start ∙ ap (λ xs. lowest_of h.start xs at) a.spans

highest_is : (g h : History) (m : ℕ) → Agree g h m → (at : ℤ) → highest g at ≡ highest h at
highest_is g h m a at = ap (λ xs. highest_of xs at) a.spans

low_of : (g h : History) (m : ℕ) → Agree g h m → (event : Event) (reading : Reading) → low_end_of g event reading ≡ low_end_of h event reading
low_of g h m a event MostRecent = lowest_is g h m a event.lo
low_of g h m a event AnyVersion = a.log.start
low_of g h m a event (NotOlderThan revision) = ap (λ x. max x revision) a.log.start
low_of g h m a event (Exactly revision) = ap₂ (λ x y. if nat_le x revision && nat_le revision y then revision else 1) a.log.start (highest_is g h m a event.hi)
low_of g h m a event (Checkpoint revision) = refl

high_of : (g h : History) (m : ℕ) → Agree g h m → (event : Event) (reading : Reading) → high_end_of g event reading ≡ high_end_of h event reading
high_of g h m a event MostRecent = highest_is g h m a event.hi
high_of g h m a event AnyVersion = highest_is g h m a event.hi
high_of g h m a event (NotOlderThan revision) = highest_is g h m a event.hi
high_of g h m a event (Exactly revision) = ap₂ (λ x y. if nat_le x revision && nat_le revision y then revision else 0) a.log.start (highest_is g h m a event.hi)
high_of g h m a event (Checkpoint revision) = refl

low_is : (g h : History) (m : ℕ) → Agree g h m → (event : Event) → low_end g event ≡ low_end h event
low_is g h m a event = low_of g h m a event event.reading

high_is : (g h : History) (m : ℕ) → Agree g h m → (event : Event) → high_end g event ≡ high_end h event
high_is g h m a event = high_of g h m a event event.reading

-- below m, clouds are the same
cloud_moves : (g h : History) (m : ℕ) → Agree g h m → (key : ObjectKey) (place : ℕ) → place < m → IsClouded g key place → IsClouded h key place
cloud_moves g h m a key place l (number, event, k, x) = (
  number,
  event,
  event_moves g h a.log number event k,
  record {
    hides = x.hides;
    begun = subst (λ z. z < place) (low_is g h m a event) x.begun;
    unseen = λ v c e b. unseen v c e b (grind arith);
  },
)
  where
    unseen : (v : Version) → Contains h.versions v → v.key ≡ key → high_end h event < v.revision → (v.revision < m) ⊎ (m ≤ v.revision) → place < v.revision
    unseen v c e b (inl y) = x.unseen v (a.back v y c) e (subst (λ z. z < v.revision) (sym (high_is g h m a event)) b)
    unseen v c e b (inr y) = omega (arith, y, l)

unrecorded_moves : (g h : History) (m : ℕ) → Agree g h m → (key : ObjectKey) (revision : ℕ) → MayBeUnrecorded g key revision → MayBeUnrecorded h key revision
unrecorded_moves g h m a key revision (number, event, k, x, l, u) = (
  number,
  event,
  event_moves g h a.log number event k,
  x,
  subst (λ z. z < revision) (low_is g h m a event) l,
  subst (λ z. revision ≤ z) (high_is g h m a event) u,
)

latest_moves : (g h : History) (m : ℕ) → Agree g h m → (key : ObjectKey) (place : ℕ) → place < m → (o : Option Version) → IsLatest g.versions key place o → IsLatest h.versions key place o
latest_moves g h m a key place l None x = λ w c e. go w c e (grind arith)
  where
    go : (w : Version) → Contains h.versions w → w.key ≡ key → (w.revision < m) ⊎ (m ≤ w.revision) → place < w.revision
    go w c e (inl y) = x w (a.back w y c) e
    go w c e (inr y) = omega (arith, y, l)
latest_moves g h m a key place l (Some v) x = (a.to v (omega (arith, x.2, l)) x.0, x.1, x.2, λ w c e b. x.3 w (a.back w (omega (arith, b, l)) c) e b)

latest_is_same : (g h : History) (m : ℕ) → Agree g h m → (key : ObjectKey) (place : ℕ) → place < m → latest g.versions key place ≡ latest h.versions key place
latest_is_same g h m a key place l = sym (latest_same h.versions key place (latest h.versions key place) (latest g.versions key place) a.rising' (latest_is h.versions key place)
    (latest_moves g h m a key place l (latest g.versions key place) (latest_is g.versions key place)))

first_uid_moves : (g h : History) (m : ℕ) → Agree g h m → (v : Version) → v.revision < m → IsFirstWithUid g.versions v → IsFirstWithUid h.versions v
first_uid_moves g h m a v l x = λ w between c e u d f b k. x w between (a.back w (omega (arith, b, k, l)) c) e u (a.back between (omega (arith, k, l)) d) f b k

first_event_moves : (g h : History) → HaveOneLog g h → (key : ObjectKey) (uid : List ℕ) (number : ℕ) (event : Event) → IsFirst g (IsRemovalOf key uid) number event → IsFirst h (IsRemovalOf key uid) number event
first_event_moves g h s key uid number event f = record {
  known = event_moves g h s number event f.known;
  holds = f.holds;
  none_before = λ n other k x. f.none_before n other (event_moves h g (log_back g h s) n other k) x;
}

behind_moves : (g h : History) (m : ℕ) → Agree g h m → (v : Version) (next : Option ℕ) (removal : Removal) → v.revision < m → IsRemovalBehind g v next removal → IsRemovalBehind h v next removal
behind_moves g h m a v next removal l x = record {
  only = first_uid_moves g h m a v l x.only;
  event = x.event;
  first = first_event_moves g h a.log v.key v.uid removal.range.event x.event x.first;
  of_key = x.of_key;
  of_uid = x.of_uid;
  of_last = x.of_last;
  low = x.low ∙ ap (λ z. max z v.revision + 1) (lowest_is g h m a x.event.lo);
  high = x.high ∙ ap (λ z. min z (place_before next)) (highest_is g h m a x.event.hi);
  some_place = x.some_place;
}

-- a write of the revision m, and what was there before it
module _ (g h : History) (m : ℕ) (a : Agree g h m) (w : Making) (is_m : w.item.revision ≡ m) (above : 0 < m) where
  anew_moves : (v : Version) → v.revision < m → IsAnew g w v → IsAnew h w v
  anew_moves v l x = record { created = x.created; other_uid = x.other_uid; removal = x.removal; removed = behind_moves g h m a v (Some w.item.revision) x.removal l x.removed }

before_moves : (g h : History) (m : ℕ) (a : Agree g h m) (w : Making) (is_m : w.item.revision ≡ m) (above : 0 < m) (before : Option Version) → IsEntryBefore g w before → IsEntryBefore h w before
before_moves g h m a w is_m above before e = go (latest g.versions w.item.key (w.item.revision - 1)) (latest_is g.versions w.item.key (w.item.revision - 1)) e
  where
    less : w.item.revision - 1 < m
    less = omega (arith, is_m, above)

    same : latest g.versions w.item.key (w.item.revision - 1) ≡ latest h.versions w.item.key (w.item.revision - 1)
    same = latest_is_same g h m a w.item.key (w.item.revision - 1) less

    by : (o : Option Version) → IsLatest g.versions w.item.key (w.item.revision - 1) o → IsEntryAfter g w o before → IsEntryAfter h w o before
    by None l x = x
    by (Some v) l (inl (x, y)) = inl (anew_moves g h m a w is_m above v (omega (arith, l.2, less)) x, y)
    by (Some v) l (inr (x, y)) = inr (λ z. x (anew_moves h g m (agree_back g h m a) w is_m above v (omega (arith, l.2, less)) z), y)

    go : (o : Option Version) → IsLatest g.versions w.item.key (w.item.revision - 1) (latest g.versions w.item.key (w.item.revision - 1)) → IsEntryBefore g w before → IsEntryBefore h w before
    go o l x = subst (λ z. IsEntryAfter h w z before) same (by (latest g.versions w.item.key (w.item.revision - 1)) l x)

clear_moves : (g h : History) (m : ℕ) (a : Agree g h m) (w : Making) (is_m : w.item.revision ≡ m) (above : 0 < m) → IsClear g w → IsClear h w
clear_moves g h m a w is_m above c = λ x. c (cloud_moves h g m (agree_back g h m a) w.item.key (w.item.revision - 1) (omega (arith, is_m, above)) x)

fault_moves : (g h : History) (m : ℕ) (a : Agree g h m) (w : Making) (is_m : w.item.revision ≡ m) (above : 0 < m) (before : Option Version) (code : Reason) → HasFault g w before code → HasFault h w before code
fault_moves g h m a w is_m above before code (outside c o) = outside c
    (subst (λ z. IsOutOfReach z (highest h w.event.hi) w.item.revision) (lowest_is g h m a w.event.lo)
    (subst (λ z. IsOutOfReach (lowest g w.event.lo) z w.item.revision) (highest_is g h m a w.event.hi) o))
fault_moves g h m a w is_m above before code (present c k t s) = present c (clear_moves g h m a w is_m above k) t s
fault_moves g h m a w is_m above before code (used c t (v, k, l, e)) = used c t (v, a.to v (omega (arith, l, is_m)) k, l, e)
fault_moves g h m a w is_m above before code (replaced c k t o) = replaced c (clear_moves g h m a w is_m above k) t o
fault_moves g h m a w is_m above before code (unmet c k n) = unmet c (clear_moves g h m a w is_m above k) n
fault_moves g h m a w is_m above before code (unasked c k n) =
    unasked c (clear_moves g h m a w is_m above k) (subst (λ f. f w.number (Rattle.history_model.specs.Making.tree_of before) ≡ false) a.log.body n)

found_moves : (g h : History) → HaveOneLog g h → (w : Making) (code : Reason) → HasFoundFault g w code → HasFoundFault h w code
found_moves g h s w code (creates c t) = creates c t
found_moves g h s w code (excludes c n) = excludes c n
found_moves g h s w code (changes c n) = changes c (subst (λ f. f w.number (Some w.item.tree) ≡ false) s.body n)

module _ (g h : History) (m : ℕ) (a : Agree g h m) (above : 0 < m) (key : ObjectKey) where
  could_moves : (w : Making) → CouldHaveMade g key m w → CouldHaveMade h key m w
  could_moves w x = record {
    member = member_moves g h a.log key m w x.member;
    before = x.before;
    entry = before_moves g h m a w x.member.at_revision above x.before x.entry;
    faultless = λ code f. x.faultless code (fault_moves h g m (agree_back g h m a) w x.member.at_revision above x.before code f);
  }

  must_moves : (w : Making) → MustHaveMade g key m w → MustHaveMade h key m w
  must_moves w x = record { made = could_moves w x.made; code = x.code; not_found = found_moves g h a.log w x.code x.not_found }

maker_moves : (g h : History) (m : ℕ) (a : Agree g h m) (above : 0 < m) (key : ObjectKey) (maker : Maker) → IsMakerOf g key m maker → IsMakerOf h key m maker
maker_moves g h m a above key maker (sole w e f) = sole w e
    (first_moves (MustHaveMade g key m) (MustHaveMade h key m) (must_moves g h m a above key) (must_moves h g m (agree_back g h m a) above key) w f)
maker_moves g h m a above key maker (able w e n f) = able w e (λ x k. n x (must_moves h g m (agree_back g h m a) above key x k))
    (first_moves (CouldHaveMade g key m) (CouldHaveMade h key m) (could_moves g h m a above key) (could_moves h g m (agree_back g h m a) above key) w f)
maker_moves g h m a above key maker (unrecorded e n u) = unrecorded e (λ x k. n x (could_moves h g m (agree_back g h m a) above key x k)) (unrecorded_moves g h m a key m u)
maker_moves g h m a above key maker (faulty w e n u f) = faulty w e (λ x k. n x (could_moves h g m (agree_back g h m a) above key x k))
    (λ k. u (unrecorded_moves h g m (agree_back g h m a) key m k)) (first_member_moves g h a.log key m w f)

-- a revision has one maker
maker_same : (h : History) (key : ObjectKey) (revision : ℕ) (a b : Maker) → IsReadable h → IsMakerOf h key revision a → IsMakerOf h key revision b → a ≡ b
maker_same h key revision a b r (sole m e f) (sole w x k) = e ∙ ap ByEvent (first_making_same h (MustHaveMade h key revision) m w r (λ z c. c.made.member.making) f k) ∙ sym x
maker_same h key revision a b r (sole m e f) (able w x n k) = absurd (n m f.holds)
maker_same h key revision a b r (sole m e f) (unrecorded x n u) = absurd (n m f.holds.made)
maker_same h key revision a b r (sole m e f) (faulty w x n u k) = absurd (n m f.holds.made)
maker_same h key revision a b r (able m e n f) (sole w x k) = absurd (n w k.holds)
maker_same h key revision a b r (able m e n f) (able w x o k) = e ∙ ap ByEvent (first_making_same h (CouldHaveMade h key revision) m w r (λ z c. c.member.making) f k) ∙ sym x
maker_same h key revision a b r (able m e n f) (unrecorded x o u) = absurd (o m f.holds)
maker_same h key revision a b r (able m e n f) (faulty w x o u k) = absurd (o m f.holds)
maker_same h key revision a b r (unrecorded e n u) (sole w x k) = absurd (n w k.holds.made)
maker_same h key revision a b r (unrecorded e n u) (able w x o k) = absurd (n w k.holds)
maker_same h key revision a b r (unrecorded e n u) (unrecorded x o v) = e ∙ sym x
maker_same h key revision a b r (unrecorded e n u) (faulty w x o v k) = absurd (v u)
maker_same h key revision a b r (faulty m e n u f) (sole w x k) = absurd (n w k.holds.made)
maker_same h key revision a b r (faulty m e n u f) (able w x o k) = absurd (n w k.holds)
maker_same h key revision a b r (faulty m e n u f) (unrecorded x o v) = absurd (u v)
maker_same h key revision a b r (faulty m e n u f) (faulty w x o v k) = e ∙ ap ByEvent (first_making_same h (IsMember h key revision) m w r (λ z c. c.making) f k) ∙ sym x

-- and one item
showing_moves : (g h : History) → HaveOneLog g h → (key : ObjectKey) (revision : ℕ) (maker : Maker) (m : Making) → IsShowing g key revision maker m → IsShowing h key revision maker m
showing_moves g h s key revision Snapshot m x = x
showing_moves g h s key revision (ByEvent number) m x = (member_moves g h s key revision m x.0, x.1)
showing_moves g h s key revision Unknown m x = first_member_moves g h s key revision m x

shown_same : (h : History) (key : ObjectKey) (revision : ℕ) (maker : Maker) (m w : Making) → IsReadable h → IsShowing h key revision maker m → IsShowing h key revision maker w → m.item ≡ w.item
shown_same h key revision Snapshot m w r x y = absurd x
shown_same h key revision (ByEvent number) m w r x y = (same_making h m w x.0.making y.0.making (x.1 ∙ sym y.1)).1
shown_same h key revision Unknown m w r x y = (same_making h m w x.holds.making y.holds.making (first_making_same h (IsMember h key revision) m w r (λ z c. c.making) x y)).1

same_version : (v w : Version) → v.key ≡ w.key → v.revision ≡ w.revision → v.uid ≡ w.uid → v.tree ≡ w.tree → v.maker ≡ w.maker → v ≡ w
same_version v w k r u t m = λ i. record { key = k i; revision = r i; uid = u i; tree = t i; maker = m i }

-- where all versions below agree, those of the next revision do
version_in : (g h : History) (v : Version) → IsReadable g → IsReadable h → Agree g h v.revision → Contains g.versions v → Contains h.versions v
version_in g h v r q a c = go (r.versions.sound v c)
  where
    old : (w : Version) × Contains h.versions w × (item_of w ≡ item_of v) → IsSnapshotVersion g v → Contains h.versions v
    old (w, d, e) x = by (q.versions.sound w d)
      where
        by : IsSnapshotVersion h w ⊎ IsMadeVersion h w → Contains h.versions v
        by (inl y) = subst (λ z. Contains h.versions z) (same_version w v (ap (λ (i : Item). i.key) e) (ap (λ (i : Item). i.revision) e) (ap (λ (i : Item). i.uid) e) (ap (λ (i : Item). i.tree) e) (y.maker ∙ sym x.maker)) d
        by (inr y) = absurd (omega (arith, y.above, x.below, ap (λ (i : Item). i.revision) e, a.log.start))

    made : IsMadeVersion g v → Contains h.versions v
    made x = at (q.versions.full_log k.m k.first.holds.making (subst (λ z. h.start < z) (sym k.first.holds.at_revision) (subst (λ z. z < v.revision) a.log.start x.above)))
      where
        k : IsKeyOf h v.revision v.key
        k = key_moves g h a.log v.revision v.key x.belongs

        at : (w : Version) × Contains h.versions w × (w.revision ≡ k.m.item.revision) → Contains h.versions v
        at (w, d, e) = by (q.versions.sound w d)
          where
            revision : w.revision ≡ v.revision
            revision = e ∙ k.first.holds.at_revision

            by : IsSnapshotVersion h w ⊎ IsMadeVersion h w → Contains h.versions v
            by (inl y) = absurd (omega (arith, y.below, revision, x.above, a.log.start))
            by (inr y) = subst (λ z. Contains h.versions z) (same_version w v key revision (y.uid ∙ ap (λ (i : Item). i.uid) items ∙ sym x.uid) (y.tree ∙ ap (λ (i : Item). i.tree) items ∙ sym x.tree) maker) d
              where
                key : w.key ≡ v.key
                key = key_same h v.revision w.key v.key q (subst (λ z. IsKeyOf h z w.key) revision y.belongs) k

                maker_at : IsMakerOf h v.key v.revision w.maker
                maker_at = subst (λ z. IsMakerOf h z v.revision w.maker) key (subst (λ z. IsMakerOf h w.key z w.maker) revision y.maker)

                maker : w.maker ≡ v.maker
                maker = maker_same h v.key v.revision w.maker v.maker q maker_at (maker_moves g h v.revision a (omega (arith, x.above)) v.key v.maker x.maker)

                shown_at : IsShowing h v.key v.revision v.maker y.m
                shown_at = subst (λ z. IsShowing h v.key v.revision z y.m) maker (subst (λ z. IsShowing h z v.revision w.maker y.m) key (subst (λ z. IsShowing h w.key z w.maker y.m) revision y.shown))

                items : y.m.item ≡ x.m.item
                items = shown_same h v.key v.revision v.maker y.m x.m q shown_at (showing_moves g h a.log v.key v.revision v.maker x.m x.shown)

    go : IsSnapshotVersion g v ⊎ IsMadeVersion g v → Contains h.versions v
    go (inl x) = old (q.versions.full_snapshot (item_of v) (subst (λ z. Contains z (item_of v)) a.log.snapshot x.listed)) x
    go (inr x) = made x

agree_below : (g h : History) → HaveOneLog g h → IsReadable g → IsReadable h → (m : ℕ) → Agree g h m
agree_below g h s r q zero = record { log = s; spans = spans_same g h s r q; rising = r.versions.rising; rising' = q.versions.rising; to = λ v l c. absurd (omega (arith, l)); back = λ v l c. absurd (omega (arith, l)) }
agree_below g h s r q (suc m) = go (agree_below g h s r q m)
  where
    go : Agree g h m → Agree g h (suc m)
    go a = record { log = s; spans = a.spans; rising = a.rising; rising' = a.rising'; to = λ v l c. to v c (grind arith); back = λ v l c. back v c (grind arith) }
      where
        to : (v : Version) → Contains g.versions v → (v.revision < m) ⊎ (m ≡ v.revision) → Contains h.versions v
        to v c (inl l) = a.to v l c
        to v c (inr e) = version_in g h v r q (subst (λ z. Agree g h z) e a) c

        back : (v : Version) → Contains h.versions v → (v.revision < m) ⊎ (m ≡ v.revision) → Contains g.versions v
        back v c (inl l) = a.back v l c
        back v c (inr e) = version_in h g v q r (subst (λ z. Agree h g z) e (agree_back g h m a)) c

versions_same : (g h : History) → HaveOneLog g h → IsReadable g → IsReadable h → g.versions ≡ h.versions
versions_same g h s r q = same_sorted (λ a b. a.revision < b.revision) g.versions h.versions (λ a b c d x y. omega (arith, x, y)) r.versions.rising q.versions.rising
    (λ v c. (agree_below g h s r q (suc v.revision)).to v (omega arith) c) (λ v c. (agree_below g h s r q (suc v.revision)).back v (omega arith) c)

removal_in : (g h : History) → HaveOneLog g h → IsReadable g → IsReadable h → (removal : Removal) → Contains g.removals removal → Contains h.removals removal
removal_in g h s r q removal c = go (r.removals.sound removal c)
  where
    go : IsRemoval g removal → Contains h.removals removal
    go x = q.removals.full removal (record {
      version = x.version;
      next = x.next;
      known = subst (λ z. Contains z x.version) (versions_same g h s r q) x.known;
      ends = subst (λ z. EndsBefore z x.version x.next) (versions_same g h s r q) x.ends;
      behind = behind_moves g h (suc x.version.revision) (agree_below g h s r q (suc x.version.revision)) x.version x.next removal (omega arith) x.behind;
    })

pub one_list_is : (g h : History) → HaveOneLog g h → IsReadable g → IsReadable h
    → (g.order ≡ h.order) × (g.spans ≡ h.spans) × (g.versions ≡ h.versions) × (g.removals ≡ h.removals)
one_list_is g h s r q = (
  order_same g h s r q,
  spans_same g h s r q,
  versions_same g h s r q,
  same_sorted (λ a b. a.range.event < b.range.event) g.removals h.removals (λ a b c d x y. omega (arith, x, y)) r.removals.rising q.removals.rising
      (removal_in g h s r q) (removal_in h g (log_back g h s) q r),
)
