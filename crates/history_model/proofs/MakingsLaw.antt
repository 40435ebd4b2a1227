-- A maker's least fault doesn't depend on the choice.
use Rattle.std.proofs.Common.{◌≡◌, ◌≢◌, ℕ, ◌<◌, ◌≤◌, ◌-◌, ◌⊎◌, ◌↔◌, Bool, true, false, List, Option, Some, None, Contains, inl, inr, refl, sym, ap, ◌∙◌, subst, arith, true≢false}
use Rattle.base_types.specs.Choices.{IsChoice}
use Rattle.base_types.specs.declared.verdict.claim.Reason.{Reason}
use Rattle.base_types.specs.declared.verdict.claim.Reason.TheVariants.{U6, U7, U8}
use Rattle.base_types.specs.Reasons.{code_number}
use Rattle.history_model.proofs.CutLemmas.{cut_of, cut_removal, cut_chosen, removal_cut}
use Rattle.history_model.proofs.Latest.{latest_is, latest_same}
use Rattle.history_model.proofs.Members.{apart}
use Rattle.history_model.proofs.StateLaw.{Stands, never, removed, stays, state_stands}
use Rattle.history_model.proofs.WordLemmas.{IsMadeBy, word_makes}
use Rattle.history_model.specs.Events.{Event}
use Rattle.history_model.specs.Groups.{Making}
use Rattle.history_model.specs.Histories.{History, Version, Removal, IsEvent, ranges}
use Rattle.history_model.specs.Incarnations.{EndsBefore, IsRemoval, IsRemovalBehind}
use Rattle.history_model.specs.Making.{HasFault, outside, present, used, replaced, unmet, unasked, IsLeastFault, IsOtherObject, IsAnew, IsEntryAfter, IsEntryBefore}
use Rattle.history_model.specs.Readable.{IsReadable}
use Rattle.history_model.specs.States.{cuts, latest, IsLatest, state}
use Rattle.history_model.specs.Words.{Makes, word}

number_of : (a b : Reason) → a ≡ b → code_number a ≡ code_number b
number_of a b e = ap code_number e

-- with another object or none before a write that didn't create, the faults that count are the same
along : (h : History) (m : Making) (a b : Option Version) → m.created ≡ false → IsOtherObject m a → IsOtherObject m b → (code : Reason) → HasFault h m a code
    → HasFault h m b code ⊎ (HasFault h m b U6 × (6 < code_number code))
along h m a b f x y code (outside c o) = inl (outside c o)
along h m a b f x y code (present c clear t s) = absurd (true≢false (sym t ∙ f))
along h m a b f x y code (used c t u) = inl (used c t u)
along h m a b f x y code (replaced c clear g o) = inl (replaced c clear f y)
along h m a b f x y code (unmet c clear n) = inr (replaced refl clear f y, omega (arith, number_of code U7 c))
along h m a b f x y code (unasked c clear n) = inr (replaced refl clear f y, omega (arith, number_of code U8 c))

least_along : (h : History) (m : Making) (a b : Option Version) → m.created ≡ false → IsOtherObject m a → IsOtherObject m b → (found : Option Reason)
    → IsLeastFault h m a found → IsLeastFault h m b found
least_along h m a b f x y None none = λ code w. at code (along h m b a f y x code w)
  where
    at : (code : Reason) → HasFault h m a code ⊎ (HasFault h m a U6 × (6 < code_number code)) → ⊥
    at code (inl v) = none code v
    at code (inr v) = none U6 v.0
least_along h m a b f x y (Some code) l = (has (along h m a b f x y code l.0), λ other w. less other (along h m b a f y x other w))
  where
    has : HasFault h m b code ⊎ (HasFault h m b U6 × (6 < code_number code)) → HasFault h m b code
    has (inl v) = v
    has (inr v) = absurd (at (along h m b a f y x U6 v.0))
      where
        at : HasFault h m a U6 ⊎ (HasFault h m a U6 × (6 < code_number U6)) → ⊥
        at (inl w) = omega (arith, l.1 U6 w, v.1)
        at (inr w) = omega (arith, w.1)

    less : (other : Reason) → HasFault h m a other ⊎ (HasFault h m a U6 × (6 < code_number other)) → code_number code ≤ code_number other
    less other (inl v) = l.1 other v
    less other (inr v) = omega (arith, l.1 U6 v.0, v.1)

module _ (h : History) (choice : List ℕ) (r : IsReadable h) (chosen : IsChoice (ranges h) choice) (m : Making) (v : Version) (b : IsMadeBy h m v) where
  -- the key's latest version before the write, as both sides have it
  entry_at : (o : Option Version) (before : Option Version) → IsLatest h.versions m.item.key (m.item.revision - 1) o → IsEntryBefore h m before → IsEntryAfter h m o before
  entry_at o before l e = subst (λ z. IsEntryAfter h m z before)
      (latest_same h.versions m.item.key (m.item.revision - 1) (latest h.versions m.item.key (m.item.revision - 1)) o r.versions.rising (latest_is h.versions m.item.key (m.item.revision - 1)) l) e

  -- where a removal ended the version before, and the write comes next, the write is another object's first
  next_is : (w : Version) (next : Option ℕ) (removal : Removal) → IsLatest h.versions m.item.key (m.item.revision - 1) (Some w) → EndsBefore h.versions w next
      → IsRemovalBehind h w next removal → (w.uid ≢ m.item.uid) × IsRemovalBehind h w (Some m.item.revision) removal
  next_is w None removal l e i = absurd (omega (arith, e v b.known (b.of_key ∙ sym l.1), l.2, b.at_revision, b.above))
  next_is w (Some next) removal l e i = at e.1
    where
      at : (u : Version) × Contains h.versions u × (u.revision ≡ next) × (u.key ≡ w.key) × (u.uid ≢ w.uid) → (w.uid ≢ m.item.uid) × IsRemovalBehind h w (Some m.item.revision) removal
      at (u, c, q, k, n) = go (grind arith) (e.2 v b.known (b.of_key ∙ sym l.1))
        where
          go : (next < m.item.revision) ⊎ (next ≡ m.item.revision) ⊎ (m.item.revision < next) → (v.revision ≤ w.revision) ⊎ (next ≤ v.revision)
              → (w.uid ≢ m.item.uid) × IsRemovalBehind h w (Some m.item.revision) removal
          go (inl a) s = absurd (omega (arith, l.3 u c (k ∙ l.1) (omega (arith, q, a)), q, e.0))
          go (inr (inl a)) s = (λ p. n (ap (λ (z : Version). z.uid) same ∙ b.of_uid ∙ sym p), subst (λ z. IsRemovalBehind h w (Some z) removal) a i)
            where
              same : u ≡ v
              same = apart (λ z. z.revision) h.versions u v r.versions.rising c b.known (q ∙ a ∙ sym b.at_revision)
          go (inr (inr a)) (inl s) = absurd (omega (arith, s, l.2, b.at_revision, b.above))
          go (inr (inr a)) (inr s) = absurd (omega (arith, s, a, b.at_revision))

  entries : (s before : Option Version) → Stands h (cuts h.removals choice) m.item.key (m.item.revision - 1) s → IsEntryBefore h m before
      → (s ≡ before) ⊎ ((m.created ≡ false) × IsOtherObject m s × IsOtherObject m before)
  entries s before (never l) e = inl (sym (entry_at None before l e))
  entries s before (removed w cut l c q p) e = go (entry_at (Some w) before l e)
    where
      i : IsRemoval h cut.removal
      i = r.removals.sound cut.removal (cut_removal h.removals choice cut c)

      same : i.version ≡ w
      same = apart (λ z. z.revision) h.versions i.version w r.versions.rising i.known l.0 (sym i.behind.of_last ∙ q)

      facts : (w.uid ≢ m.item.uid) × IsRemovalBehind h w (Some m.item.revision) cut.removal
      facts = next_is w i.next cut.removal l (subst (λ z. EndsBefore h.versions z i.next) same i.ends) (subst (λ z. IsRemovalBehind h z i.next cut.removal) same i.behind)

      go : (IsAnew h m w × (before ≡ None)) ⊎ ((IsAnew h m w → ⊥) × (before ≡ Some w)) → (None ≡ before) ⊎ ((m.created ≡ false) × IsOtherObject m None × IsOtherObject m before)
      go (inl a) = inl (sym a.1)
      go (inr a) = by m.created refl
        where
          by : (t : Bool) → m.created ≡ t → (None ≡ before) ⊎ ((m.created ≡ false) × IsOtherObject m None × IsOtherObject m before)
          by true t = absurd (a.0 (record { created = t; other_uid = facts.0; removal = cut.removal; removed = facts.1 }))
          by false t = inr (t, tt, subst (λ z. IsOtherObject m z) (sym a.1) facts.0)
  entries s before (stays w l stay) e = go (entry_at (Some w) before l e)
    where
      go : (IsAnew h m w × (before ≡ None)) ⊎ ((IsAnew h m w → ⊥) × (before ≡ Some w)) → (Some w ≡ before) ⊎ ((m.created ≡ false) × IsOtherObject m (Some w) × IsOtherObject m before)
      go (inr a) = inl (sym a.1)
      go (inl (a, n)) = absurd (at (removal_cut h.removals choice a.removal chosen listed))
        where
          ends : EndsBefore h.versions w (Some m.item.revision)
          ends = (
            omega (arith, l.2, b.above, b.at_revision),
            (v, b.known, b.at_revision, b.of_key ∙ sym l.1, λ p. a.other_uid (sym p ∙ b.of_uid)),
            λ u c k. split u (λ d. l.3 u c (k ∙ l.1) d),
          )
            where
              split : (u : Version) → (u.revision ≤ m.item.revision - 1 → u.revision ≤ w.revision) → (u.revision ≤ w.revision) ⊎ (m.item.revision ≤ u.revision)
              split u f = grind arith

          listed : Contains h.removals a.removal
          listed = r.removals.full a.removal (record { version = w; next = Some m.item.revision; known = l.0; ends = ends; behind = a.removed })

          at : (place : ℕ) × Contains (cuts h.removals choice) (cut_of a.removal place) → ⊥
          at (place, c) = omega (arith, stay (cut_of a.removal place) c a.removed.of_last, (cut_chosen h.removals choice (cut_of a.removal place) chosen c).1, a.removed.high)

-- there is an entry before a write that a maker made
pub entry_exists : (h : History) (choice : List ℕ) (m : Making) (v : Version) → IsReadable h → IsChoice (ranges h) choice → IsMadeBy h m v
    → (before : Option Version) × IsEntryBefore h m before
entry_exists h choice m v r chosen b = go (state h choice (m.item.revision - 1) m.item.key) (state_stands h choice (m.item.revision - 1) m.item.key)
  where
    latest_at : (o : Option Version) → IsLatest h.versions m.item.key (m.item.revision - 1) o → latest h.versions m.item.key (m.item.revision - 1) ≡ o
    latest_at o l = latest_same h.versions m.item.key (m.item.revision - 1) (latest h.versions m.item.key (m.item.revision - 1)) o r.versions.rising
        (latest_is h.versions m.item.key (m.item.revision - 1)) l

    entry : (o before : Option Version) → IsLatest h.versions m.item.key (m.item.revision - 1) o → IsEntryAfter h m o before → IsEntryBefore h m before
    entry o before l e = subst (λ z. IsEntryAfter h m z before) (sym (latest_at o l)) e

    go : (s : Option Version) → Stands h (cuts h.removals choice) m.item.key (m.item.revision - 1) s → (before : Option Version) × IsEntryBefore h m before
    go s (never l) = (None, entry None None l refl)
    go s (removed w cut l c q p) = by m.created refl
      where
        i : IsRemoval h cut.removal
        i = r.removals.sound cut.removal (cut_removal h.removals choice cut c)

        same : i.version ≡ w
        same = apart (λ z. z.revision) h.versions i.version w r.versions.rising i.known l.0 (sym i.behind.of_last ∙ q)

        facts : (w.uid ≢ m.item.uid) × IsRemovalBehind h w (Some m.item.revision) cut.removal
        facts = next_is h choice r chosen m v b w i.next cut.removal l (subst (λ z. EndsBefore h.versions z i.next) same i.ends) (subst (λ z. IsRemovalBehind h z i.next cut.removal) same i.behind)

        by : (t : Bool) → m.created ≡ t → (before : Option Version) × IsEntryBefore h m before
        by true t = (None, entry (Some w) None l (inl (record { created = t; other_uid = facts.0; removal = cut.removal; removed = facts.1 }, refl)))
        by false t = (Some w, entry (Some w) (Some w) l (inr (λ a. true≢false (sym a.created ∙ t), refl)))
    go s (stays w l stay) = (Some w, entry (Some w) (Some w) l (inr (λ a. not_anew a (entries h choice r chosen m v b (Some w) None (stays w l stay) (entry (Some w) None l (inl (a, refl)))), refl)))
      where
        not_anew : IsAnew h m w → (Some w ≡ None) ⊎ ((m.created ≡ false) × IsOtherObject m (Some w) × IsOtherObject m None) → ⊥
        not_anew a (inl e) = cc e
        not_anew a (inr f) = true≢false (sym a.created ∙ f.0)

pub makings_are : (h : History) (choice : List ℕ) (number : ℕ) (event : Event) (m : Making) (before : Option Version) (found : Option Reason)
    → IsReadable h → IsChoice (ranges h) choice → IsEvent h number event → word h number event ≡ Makes m → IsEntryBefore h m before
    → IsLeastFault h m (state h choice (m.item.revision - 1) m.item.key) found ↔ IsLeastFault h m before found
makings_are h choice number event m before found r chosen known w e = go (word_makes h number event m r known w)
  where
    here' : Option Version
    here' = state h choice (m.item.revision - 1) m.item.key

    go : (v : Version) × IsMadeBy h m v × (m.number ≡ number) × (m.event ≡ event)
        → IsLeastFault h m (state h choice (m.item.revision - 1) m.item.key) found ↔ IsLeastFault h m before found
    go (v, b, n, x) = at (entries h choice r chosen m v b (state h choice (m.item.revision - 1) m.item.key) before (state_stands h choice (m.item.revision - 1) m.item.key) e)
      where
        at : (state h choice (m.item.revision - 1) m.item.key ≡ before)
            ⊎ ((m.created ≡ false) × IsOtherObject m (state h choice (m.item.revision - 1) m.item.key) × IsOtherObject m before)
            → IsLeastFault h m (state h choice (m.item.revision - 1) m.item.key) found ↔ IsLeastFault h m before found
        at (inl q) = (λ l. subst (λ z. IsLeastFault h m z found) q l, λ l. subst (λ z. IsLeastFault h m z found) (sym q) l)
        at (inr (f, y, z)) = (
          λ l. least_along h m (state h choice (m.item.revision - 1) m.item.key) before f y z found l,
          λ l. least_along h m before (state h choice (m.item.revision - 1) m.item.key) f z y found l,
        )
