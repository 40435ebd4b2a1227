-- What the word of an event says.
use Rattle.std.proofs.Common.{◌≡◌, ◌≢◌, ℕ, ◌<◌, ◌≤◌, ◌⊎◌, Bool, true, false, nat_le, ◌==◌, List, [], ◌∷◌, Option, Some, None, find, Contains, inl, inr, refl, sym, ap, ◌∙◌, subst, arith, true≢false}
use Rattle.std.proofs.lemmas.Bool.Decides.{leb_tells, eqb_tells}
use Rattle.std.proofs.lemmas.Option.{same_Some}
use Rattle.base_types.specs.declared.kubernetes.key.ObjectKey.{ObjectKey}
use Rattle.history_model.proofs.Fits.{same_event}
use Rattle.history_model.proofs.KeyLemmas.{key_tells, key_is}
use Rattle.history_model.proofs.Members.{not_in_none, here, there, in_cons, apart}
use Rattle.history_model.specs.Events.{Text, Item, Event, Answer, Made, Removed, Opaque, Saw, SawNone, SawSome, SawOther, Listed, Free, Aside}
use Rattle.history_model.specs.Groups.{Making, IsMaking, IsMember}
use Rattle.history_model.specs.Histories.{History, Version, Removal, Maker, Snapshot, ByEvent, Unknown, IsEvent}
use Rattle.base_types.specs.Keys.{same_key}
use Rattle.history_model.specs.Makers.{IsMadeVersion, IsSnapshotVersion, IsShowing}
use Rattle.history_model.specs.Readable.{IsReadable}
use Rattle.history_model.specs.Words.{Word, Makes, Removes, At, Strays, Nothing, is_by, write_word, removal_word, answer_word, word}

pub found_in : {X : Type 0} (test : X → Bool) (xs : List X) (x : X) → find test xs ≡ Some x → Contains xs x × (test x ≡ true)
found_in test [] x e = absurd (cc e)
found_in {X} test (y ∷ ys) x e = go (found_in test ys x) (test y) refl
  where
    go : (find test ys ≡ Some x → Contains ys x × (test x ≡ true)) → (t : Bool) → test y ≡ t → Contains (y ∷ ys) x × (test x ≡ true)
    go rest true q = let p : y ≡ x = same_Some y x (rw q at e) in (subst (λ z. Contains (y ∷ ys) z) p (here y ys), ap test (sym p) ∙ q)
    go rest false q = let r : Contains ys x × (test x ≡ true) = rest (rw q at e) in (there y x ys r.0, r.1)

pub not_found : {X : Type 0} (test : X → Bool) (xs : List X) → find test xs ≡ None → (x : X) → Contains xs x → test x ≡ true → ⊥
not_found test [] e x c = λ t. not_in_none c
not_found {X} test (y ∷ ys) e x c = go (λ d m. not_found test ys d x m) (test y) refl (in_cons y ys x c)
  where
    go : (find test ys ≡ None → Contains ys x → test x ≡ true → ⊥) → (t : Bool) → test y ≡ t → (y ≡ x) ⊎ Contains ys x → test x ≡ true → ⊥
    go rest true q m t = let p : Some y ≡ None = rw q at e in cc p
    go rest false q (inl p) t = true≢false (sym t ∙ ap test (sym p) ∙ q)
    go rest false q (inr m) t = rest (rw q at e) m t

-- the one member that passes is found
pub find_is : {X : Type 0} (test : X → Bool) (xs : List X) (x : X) → Contains xs x → test x ≡ true
    → ((y : X) → Contains xs y → test y ≡ true → y ≡ x) → find test xs ≡ Some x
find_is {X} test xs x c t one = go (find test xs) refl
  where
    go : (o : Option X) → find test xs ≡ o → find test xs ≡ Some x
    go None e = absurd (not_found test xs e x c t)
    go (Some y) e = let f : Contains xs y × (test y ≡ true) = found_in test xs y e in e ∙ ap Some (one y f.0 f.1)

pub eq_test : (a b : ℕ) → (a == b) ≡ true → a ≡ b
eq_test a b e = go (eqb_tells a b)
  where
    go : (((a == b) ≡ true) × (a ≡ b)) ⊎ (((a == b) ≡ false) × (a ≢ b)) → a ≡ b
    go (inl w) = w.1
    go (inr w) = absurd (true≢false (sym e ∙ w.0))

pub test_eq : (a b : ℕ) → a ≡ b → (a == b) ≡ true
test_eq a b e = go (eqb_tells a b)
  where
    go : (((a == b) ≡ true) × (a ≡ b)) ⊎ (((a == b) ≡ false) × (a ≢ b)) → (a == b) ≡ true
    go (inl w) = w.0
    go (inr w) = absurd (w.1 e)

-- a version with the write of its revision that a maker's answer shows
pub record IsMadeBy (h : History) (m : Making) (v : Version) : Type 0 where
  pub making : IsMaking h m
  pub above : h.start < v.revision
  pub known : Contains h.versions v
  pub maker : v.maker ≡ ByEvent m.number
  pub of_key : v.key ≡ m.item.key
  pub at_revision : v.revision ≡ m.item.revision
  pub of_uid : v.uid ≡ m.item.uid
  pub of_tree : v.tree ≡ m.item.tree

same_answer : (a b : Item) (c d : Bool) → Made a c ≡ Made b d → (a ≡ b) × (c ≡ d)
same_answer a b c d e = (cc e, cc e)

-- a write of an event is one
pub same_making : (h : History) (m w : Making) → IsMaking h m → IsMaking h w → m.number ≡ w.number → (m.event ≡ w.event) × (m.item ≡ w.item) × (m.created ≡ w.created)
same_making h m w a b e = (event, parts.0, parts.1)
  where
    event : m.event ≡ w.event
    event = same_event h w.number m.event w.event (subst (λ n. IsEvent h n m.event) e a.known) b.known

    parts : (m.item ≡ w.item) × (m.created ≡ w.created)
    parts = same_answer m.item w.item m.created w.created (sym a.made ∙ ap (λ (x : Event). x.answer) event ∙ b.made)

showing_maker : (h : History) (key : ObjectKey) (revision number : ℕ) (maker : Maker) (m : Making) → maker ≡ ByEvent number → IsShowing h key revision maker m
    → IsMember h key revision m × (m.number ≡ number)
showing_maker h key revision number Snapshot m e s = absurd s
showing_maker h key revision number (ByEvent n) m e s = (s.0, s.1 ∙ cc e)
showing_maker h key revision number Unknown m e s = absurd (cc e)

-- a version whose maker is an event has the key, revision, uid and tree of its answer
pub made_version : (h : History) (v : Version) (number : ℕ) → IsReadable h → Contains h.versions v → v.maker ≡ ByEvent number
    → (m : Making) × (m.number ≡ number) × IsMadeBy h m v
made_version h v number r c e = go (r.versions.sound v c)
  where
    go : IsSnapshotVersion h v ⊎ IsMadeVersion h v → (m : Making) × (m.number ≡ number) × IsMadeBy h m v
    go (inl s) = absurd (cc (s.maker, e))
    go (inr s) = at (showing_maker h v.key v.revision number v.maker s.m e s.shown)
      where
        at : IsMember h v.key v.revision s.m × (s.m.number ≡ number) → (m : Making) × (m.number ≡ number) × IsMadeBy h m v
        at w = (
          s.m,
          w.1,
          record {
            making = w.0.making;
            above = s.above;
            known = c;
            maker = e ∙ ap ByEvent (sym w.1);
            of_key = sym w.0.of_key;
            at_revision = sym w.0.at_revision;
            of_uid = s.uid;
            of_tree = s.tree;
          },
        )

abbrev pub write_of : ℕ → Event → Item → Bool → Making
write_of number event item created = record { number = number; event = event; item = item; created = created }

-- the cases of a word
pub data WordIs (h : History) (number : ℕ) (event : Event) (w : Word) : Type 0 where
  makes : (item : Item) (created : Bool) (v : Version) → w ≡ Makes (write_of number event item created) → event.answer ≡ Made item created
      → h.start < item.revision → Contains h.versions v → v.revision ≡ item.revision → v.key ≡ item.key → v.maker ≡ ByEvent number → WordIs h number event w
  old : (item : Item) (created : Bool) → w ≡ At → event.answer ≡ Made item created → item.revision ≤ h.start → WordIs h number event w
  found : (item : Item) (created : Bool) (v : Version) → w ≡ At → event.answer ≡ Made item created
      → h.start < item.revision → Contains h.versions v → v.revision ≡ item.revision → v.key ≡ item.key → (v.maker ≡ ByEvent number → ⊥) → WordIs h number event w
  missing : (item : Item) (created : Bool) → w ≡ At → event.answer ≡ Made item created → h.start < item.revision
      → ((v : Version) → Contains h.versions v → v.revision ≡ item.revision → ⊥) → WordIs h number event w
  strays : (item : Item) (created : Bool) (v : Version) → w ≡ Strays → event.answer ≡ Made item created
      → h.start < item.revision → Contains h.versions v → v.revision ≡ item.revision → v.key ≢ item.key → WordIs h number event w
  removes : (key : ObjectKey) (uid : Text) (removal : Removal) → w ≡ Removes removal → event.answer ≡ Removed key uid
      → Contains h.removals removal → removal.range.event ≡ number → WordIs h number event w
  unplaced : (key : ObjectKey) (uid : Text) → w ≡ At → event.answer ≡ Removed key uid
      → ((removal : Removal) → Contains h.removals removal → removal.range.event ≡ number → ⊥) → WordIs h number event w
  reads : w ≡ At → ((item : Item) (created : Bool) → event.answer ≡ Made item created → ⊥) → ((key : ObjectKey) (uid : Text) → event.answer ≡ Removed key uid → ⊥) → WordIs h number event w
  free : w ≡ Nothing → WordIs h number event w

by_tells : (number : ℕ) (maker : Maker) → ((is_by number maker ≡ true) × (maker ≡ ByEvent number)) ⊎ ((is_by number maker ≡ false) × (maker ≡ ByEvent number → ⊥))
by_tells number Snapshot = inr (refl, λ e. cc e)
by_tells number (ByEvent n) = go (eqb_tells n number)
  where
    go : (((n == number) ≡ true) × (n ≡ number)) ⊎ (((n == number) ≡ false) × (n ≢ number))
        → (((n == number) ≡ true) × (ByEvent n ≡ ByEvent number)) ⊎ (((n == number) ≡ false) × (ByEvent n ≡ ByEvent number → ⊥))
    go (inl w) = inl (w.0, ap ByEvent w.1)
    go (inr w) = inr (w.0, λ e. w.1 (cc e))
by_tells number Unknown = inr (refl, λ e. cc e)

module _ (h : History) (number : ℕ) (event : Event) where
  made_word : (item : Item) (created : Bool) → event.answer ≡ Made item created → WordIs h number event (answer_word h number event (Made item created))
  made_word item created a = go (leb_tells item.revision h.start)
    where
      test : Version → Bool
      test v = v.revision == item.revision

      rest : h.start < item.revision → (o : Option Version) → find (λ v. v.revision == item.revision) h.versions ≡ o → WordIs h number event (write_word (write_of number event item created) o)
      rest s None e = missing item created refl a s (λ v c q. not_found (λ v. v.revision == item.revision) h.versions e v c (test_eq v.revision item.revision q))
      rest s (Some v) e = at (found_in (λ v. v.revision == item.revision) h.versions v e)
        where
          at : Contains h.versions v × ((v.revision == item.revision) ≡ true) → WordIs h number event (write_word (write_of number event item created) (Some v))
          at f = by (key_tells v.key item.key) (by_tells number v.maker)
            where
              by : ((same_key v.key item.key ≡ true) × (v.key ≡ item.key)) ⊎ ((same_key v.key item.key ≡ false) × (v.key ≢ item.key))
                  → ((is_by number v.maker ≡ true) × (v.maker ≡ ByEvent number)) ⊎ ((is_by number v.maker ≡ false) × (v.maker ≡ ByEvent number → ⊥))
                  → WordIs h number event (write_word (write_of number event item created) (Some v))
              by (inl k) (inl b) = makes item created v (rw (k.0, b.0) refl) a s f.0 (eq_test v.revision item.revision f.1) k.1 b.1
              by (inl k) (inr b) = found item created v (rw (k.0, b.0) refl) a s f.0 (eq_test v.revision item.revision f.1) k.1 b.1
              by (inr k) b = strays item created v (rw k.0 refl) a s f.0 (eq_test v.revision item.revision f.1) k.1

      go : ((nat_le item.revision h.start ≡ true) × (item.revision ≤ h.start)) ⊎ ((nat_le item.revision h.start ≡ false) × (h.start < item.revision))
          → WordIs h number event (answer_word h number event (Made item created))
      go (inl l) = rw l.0 (old item created refl a l.1)
      go (inr l) = rw l.0 (rest l.1 (find (λ v. v.revision == item.revision) h.versions) refl)

  removed_word : (key : ObjectKey) (uid : Text) → event.answer ≡ Removed key uid → WordIs h number event (answer_word h number event (Removed key uid))
  removed_word key uid a = go (find (λ removal. removal.range.event == number) h.removals) refl
    where
      go : (o : Option Removal) → find (λ removal. removal.range.event == number) h.removals ≡ o → WordIs h number event (removal_word o)
      go None e = unplaced key uid refl a (λ r c q. not_found (λ removal. removal.range.event == number) h.removals e r c (test_eq r.range.event number q))
      go (Some r) e = at (found_in (λ removal. removal.range.event == number) h.removals r e)
        where
          at : Contains h.removals r × ((r.range.event == number) ≡ true) → WordIs h number event (Removes r)
          at f = removes key uid r refl a f.0 (eq_test r.range.event number f.1)

  word_by : (answer : Answer) → event.answer ≡ answer → WordIs h number event (answer_word h number event answer)
  word_by (Made item created) e = made_word item created e
  word_by (Removed key uid) e = removed_word key uid e
  word_by (Opaque cover) e = free refl
  word_by (Saw item) e = reads refl (λ i c q. cc (e, q)) (λ k u q. cc (e, q))
  word_by (SawNone key) e = reads refl (λ i c q. cc (e, q)) (λ k u q. cc (e, q))
  word_by (SawSome key) e = reads refl (λ i c q. cc (e, q)) (λ k u q. cc (e, q))
  word_by (SawOther key) e = reads refl (λ i c q. cc (e, q)) (λ k u q. cc (e, q))
  word_by (Listed listing) e = reads refl (λ i c q. cc (e, q)) (λ k u q. cc (e, q))
  word_by Free e = free refl
  word_by Aside e = free refl

pub word_is : (h : History) (number : ℕ) (event : Event) → WordIs h number event (word h number event)
word_is h number event = word_by h number event event.answer refl

-- an event that makes a version
pub word_makes : (h : History) (number : ℕ) (event : Event) (m : Making) → IsReadable h → IsEvent h number event → word h number event ≡ Makes m
    → (v : Version) × IsMadeBy h m v × (m.number ≡ number) × (m.event ≡ event)
word_makes h number event m r known e = go (word_is h number event)
  where
    go : WordIs h number event (word h number event) → (v : Version) × IsMadeBy h m v × (m.number ≡ number) × (m.event ≡ event)
    go (makes item created v w a s c rev key maker) = at (made_version h v number r c maker)
      where
        is : write_of number event item created ≡ m
        is = cc (w, e)

        making : IsMaking h (write_of number event item created)
        making = record { known = known; made = a }

        at : (x : Making) × (x.number ≡ number) × IsMadeBy h x v → (v : Version) × IsMadeBy h m v × (m.number ≡ number) × (m.event ≡ event)
        at (x, n, b) = (v, subst (λ y. IsMadeBy h y v) (same ∙ is) b, ap (λ (y : Making). y.number) (sym is), ap (λ (y : Making). y.event) (sym is))
          where
            parts : (x.event ≡ event) × (x.item ≡ item) × (x.created ≡ created)
            parts = same_making h x (write_of number event item created) b.making making n

            same : x ≡ write_of number event item created
            same = λ i. record { number = n i; event = parts.0 i; item = parts.1 i; created = parts.2 i }
    go (old item created w a s) = absurd (cc (w, e))
    go (found item created v w a s c rev key maker) = absurd (cc (w, e))
    go (missing item created w a s n) = absurd (cc (w, e))
    go (strays item created v w a s c rev n) = absurd (cc (w, e))
    go (removes key uid removal w a c q) = absurd (cc (w, e))
    go (unplaced key uid w a n) = absurd (cc (w, e))
    go (reads w a b) = absurd (cc (w, e))
    go (free w) = absurd (cc (w, e))

-- an event that removes
pub word_removes : (h : History) (number : ℕ) (event : Event) (removal : Removal) → word h number event ≡ Removes removal
    → Contains h.removals removal × (removal.range.event ≡ number)
word_removes h number event removal e = go (word_is h number event)
  where
    go : WordIs h number event (word h number event) → Contains h.removals removal × (removal.range.event ≡ number)
    go (makes item created v w a s c rev key maker) = absurd (cc (w, e))
    go (old item created w a s) = absurd (cc (w, e))
    go (found item created v w a s c rev key maker) = absurd (cc (w, e))
    go (missing item created w a s n) = absurd (cc (w, e))
    go (strays item created v w a s c rev n) = absurd (cc (w, e))
    go (removes key uid r w a c q) = let p : r ≡ removal = cc (w, e) in (subst (λ z. Contains h.removals z) p c, ap (λ (z : Removal). z.range.event) (sym p) ∙ q)
    go (unplaced key uid w a n) = absurd (cc (w, e))
    go (reads w a b) = absurd (cc (w, e))
    go (free w) = absurd (cc (w, e))

-- and back: the maker's event makes, the removal's removes
pub maker_word : (h : History) (m : Making) (v : Version) → IsReadable h → IsMadeBy h m v → word h m.number m.event ≡ Makes m
maker_word h m v r b = ap (answer_word h m.number m.event) b.making.made ∙ at (leb_tells m.item.revision h.start)
  where
    one : (w : Version) → Contains h.versions w → (w.revision == m.item.revision) ≡ true → w ≡ v
    one w c t = apart (λ z. z.revision) h.versions w v r.versions.rising c b.known (eq_test w.revision m.item.revision t ∙ sym b.at_revision)

    by_self : is_by m.number (ByEvent m.number) ≡ true
    by_self = test_eq m.number m.number refl

    at : ((nat_le m.item.revision h.start ≡ true) × (m.item.revision ≤ h.start)) ⊎ ((nat_le m.item.revision h.start ≡ false) × (h.start < m.item.revision))
        → answer_word h m.number m.event (Made m.item m.created) ≡ Makes m
    at (inl l) = absurd (omega (arith, l.1, b.above, b.at_revision))
    at (inr l) = rw (l.0, find_is (λ w. w.revision == m.item.revision) h.versions v b.known (test_eq v.revision m.item.revision b.at_revision) one, key_is v.key m.item.key b.of_key, ap (is_by m.number) b.maker ∙ by_self) refl

pub removal_word_is : (h : History) (removal : Removal) (event : Event) → IsReadable h → Contains h.removals removal → IsEvent h removal.range.event event
    → word h removal.range.event event ≡ Removes removal
removal_word_is h removal event r c known = go (r.removals.sound removal c)
  where
    one : (w : Removal) → Contains h.removals w → (w.range.event == removal.range.event) ≡ true → w ≡ removal
    one w d t = apart (λ (z : Removal). z.range.event) h.removals w removal r.removals.rising d c (eq_test w.range.event removal.range.event t)

    go : Rattle.history_model.specs.Incarnations.IsRemoval h removal → word h removal.range.event event ≡ Removes removal
    go i = ap (answer_word h removal.range.event event) answer ∙ ap removal_word (find_is (λ w. w.range.event == removal.range.event) h.removals removal c (test_eq removal.range.event removal.range.event refl) one)
      where
        answer : event.answer ≡ Removed i.version.key i.version.uid
        answer = ap (λ (x : Event). x.answer) (same_event h removal.range.event event i.behind.event known i.behind.first.known) ∙ i.behind.first.holds

-- the word is that of an answer, or another
pub is_at : (w : Word) → (w ≡ At) ⊎ (w ≡ At → ⊥)
is_at (Makes m) = inr (λ e. cc e)
is_at (Removes r) = inr (λ e. cc e)
is_at At = inl refl
is_at Strays = inr (λ e. cc e)
is_at Nothing = inr (λ e. cc e)
