-- At which one place of a window an answer turns on the choice, and which bound that is.
use Rattle.std.proofs.Common.{◌≡◌, ◌≢◌, ℕ, ◌<◌, ◌≤◌, ◌-◌, ◌⊎◌, ◌↔◌, List, Option, Some, None, IsSomeAnd, Contains, slice_get, slice_index, inl, inr, refl, sym, ap, ◌∙◌, subst, arith}
use Rattle.base_types.specs.Choices.{IsChoice, Meets}
use Rattle.base_types.specs.declared.kubernetes.key.ObjectKey.{ObjectKey}
use Rattle.history_model.proofs.CutLemmas.{cut_of, cut_removal, cut_chosen, removal_cut, cut_at}
use Rattle.history_model.proofs.Fits.{CutEnds, CutsFit, cuts_fit}
use Rattle.history_model.proofs.Latest.{latest_is, latest_same}
use Rattle.history_model.proofs.Members.{apart}
use Rattle.history_model.proofs.RemovalsLaw.{stands_same}
use Rattle.history_model.proofs.StateLaw.{Stands, never, removed, stays, state_stands}
use Rattle.history_model.specs.Bounding.{SomewhereIn, IsAbsentAnyway, ComesIn, IsRemovalAt, absence_bound, presence_bound}
use Rattle.history_model.specs.Histories.{History, Version, Removal, ranges}
use Rattle.history_model.specs.Incarnations.{EndsBefore, IsRemoval}
use Rattle.history_model.specs.Readable.{IsReadable}
use Rattle.history_model.specs.States.{Cut, cuts, latest, IsLatest, state}

module _ (h : History) (choice : List ℕ) (r : IsReadable h) (chosen : IsChoice (ranges h) choice) (key : ObjectKey) where
  fit : CutsFit h.start h.versions (cuts h.removals choice)
  fit = cuts_fit h choice r chosen

  is_latest : (place : ℕ) (o : Option Version) → latest h.versions key place ≡ o → IsLatest h.versions key place o
  is_latest place o e = subst (λ z. IsLatest h.versions key place z) e (latest_is h.versions key place)

  latest_of : (place : ℕ) (o : Option Version) → IsLatest h.versions key place o → latest h.versions key place ≡ o
  latest_of place o l = latest_same h.versions key place (latest h.versions key place) o r.versions.rising (latest_is h.versions key place) l

  state_of : (place : ℕ) (o : Option Version) → Stands h (cuts h.removals choice) key place o → state h choice place key ≡ o
  state_of place o s = stands_same h (cuts h.removals choice) key place (state h choice place key) o fit (state_stands h choice place key) s

  -- absent whatever is chosen
  pub anyway_none : (place : ℕ) → IsAbsentAnyway h key place → state h choice place key ≡ None
  anyway_none place (inl e) = state_of place None (never (is_latest place None e))
  anyway_none place (inr (v, removal, e, c, q, l)) = go (removal_cut h.removals choice removal chosen c)
    where
      go : (x : ℕ) × Contains (cuts h.removals choice) (cut_of removal x) → state h choice place key ≡ None
      go (x, d) = state_of place None (removed v (cut_of removal x) (is_latest place (Some v) e) d q (omega (arith, (cut_chosen h.removals choice (cut_of removal x) chosen d).1, l)))

  -- a key is absent somewhere where it is absent anyway at some place, or at the last one
  absent_place : (low high x : ℕ) → low ≤ x → x ≤ high → (o : Option Version) → Stands h (cuts h.removals choice) key x o → o ≡ None
      → SomewhereIn low high (IsAbsentAnyway h key) ⊎ (state h choice high key ≡ None)
  absent_place low high x l m o (never n) e = inl (x, l, m, inl (latest_of x None n))
  absent_place low high x l m o (stays v n s) e = absurd (cc e)
  absent_place low high x l m o (removed v cut n c q p) e = go (latest h.versions key high) (latest_is h.versions key high)
    where
      i : IsRemoval h cut.removal
      i = r.removals.sound cut.removal (cut_removal h.removals choice cut c)

      same : i.version ≡ v
      same = apart (λ z. z.revision) h.versions i.version v r.versions.rising i.known n.0 (sym i.behind.of_last ∙ q)

      ends : EndsBefore h.versions v i.next
      ends = subst (λ z. EndsBefore h.versions z i.next) same i.ends

      high_is : cut.removal.range.high ≤ Rattle.history_model.specs.Incarnations.place_before i.next
      high_is = omega (arith, i.behind.high)

      later : (w : Version) → Contains h.versions w → w.key ≡ key → w.revision ≤ high → v.revision < w.revision → (next : Option ℕ) → EndsBefore h.versions v next
          → cut.removal.range.high ≤ Rattle.history_model.specs.Incarnations.place_before next → SomewhereIn low high (IsAbsentAnyway h key)
      later w d k b a None f u = absurd (omega (arith, f w d (k ∙ sym n.1), a))
      later w d k b a (Some next) f u = at f.1 (f.2 w d (k ∙ sym n.1))
        where
          at : (y : Version) × Contains h.versions y × (y.revision ≡ next) × (y.key ≡ v.key) × (y.uid ≢ v.uid) → (w.revision ≤ v.revision) ⊎ (next ≤ w.revision)
              → SomewhereIn low high (IsAbsentAnyway h key)
          at y (inl z) = absurd (omega (arith, z, a))
          at (y, yc, yr, yk, yu) (inr z) = (next - 1, omega (arith, l, before), omega (arith, z, b), inr (v, cut.removal, latest_of (next - 1) (Some v) last, cut_removal h.removals choice cut c, q, u))
            where
              before : x < next
              before = by (grind arith)
                where
                  by : (x < next) ⊎ (next ≤ x) → x < next
                  by (inl g) = g
                  by (inr g) = absurd (omega (arith, n.3 y yc (yk ∙ n.1) (omega (arith, yr, g)), yr, f.0))

              last : IsLatest h.versions key (next - 1) (Some v)
              last = (n.0, n.1, omega (arith, f.0), λ t tc tk tb. by t tb (f.2 t tc (tk ∙ sym n.1)))
                where
                  by : (t : Version) → t.revision ≤ next - 1 → (t.revision ≤ v.revision) ⊎ (next ≤ t.revision) → t.revision ≤ v.revision
                  by t tb (inl g) = g
                  by t tb (inr g) = absurd (omega (arith, tb, g, f.0))

      go : (z : Option Version) → IsLatest h.versions key high z → SomewhereIn low high (IsAbsentAnyway h key) ⊎ (state h choice high key ≡ None)
      go None k = absurd (omega (arith, k v n.0 n.1, n.2, m))
      go (Some w) k = at (grind arith)
        where
          at : (v.revision < w.revision) ⊎ (v.revision ≡ w.revision) ⊎ (w.revision < v.revision) → SomewhereIn low high (IsAbsentAnyway h key) ⊎ (state h choice high key ≡ None)
          at (inl a) = inl (later w k.0 k.1 k.2 a i.next ends high_is)
          at (inr (inl a)) = inr (state_of high None (removed w cut k c (q ∙ a) (omega (arith, p, m))))
          at (inr (inr a)) = absurd (omega (arith, k.3 v n.0 n.1 (omega (arith, n.2, m)), a))

  pub absent_is : (low high : ℕ) → low ≤ high → SomewhereIn low high (λ x. state h choice x key ≡ None) ↔ (SomewhereIn low high (IsAbsentAnyway h key) ⊎ (state h choice high key ≡ None))
  absent_is low high w = ((λ (x, l, m, e). absent_place low high x l m (state h choice x key) (state_stands h choice x key) e), back)
    where
      back : SomewhereIn low high (IsAbsentAnyway h key) ⊎ (state h choice high key ≡ None) → SomewhereIn low high (λ x. state h choice x key ≡ None)
      back (inl (x, l, m, a)) = (x, l, m, anyway_none x a)
      back (inr e) = (high, w, omega arith, e)

  -- a version is present at its own revision
  pub own_place : (v : Version) → Contains h.versions v → v.key ≡ key → state h choice v.revision key ≡ Some v
  own_place v c k = state_of v.revision (Some v) (stays v (c, k, omega arith, λ w d e b. b) behind)
    where
      behind : (cut : Cut) → Contains (cuts h.removals choice) cut → cut.removal.last ≡ v.revision → v.revision < cut.place
      behind cut d e = at (fit.ends cut d)
        where
          at : CutEnds h.start h.versions cut → v.revision < cut.place
          at z = omega (arith, z.behind, z.of_last, e)

  -- a version with a fact is present somewhere where one comes, or at the first place
  present_place : (Fact : Version → Type 0) (low high x : ℕ) → low ≤ x → x ≤ high → (o : Option Version) → Stands h (cuts h.removals choice) key x o → IsSomeAnd o Fact
      → ComesIn h key low high Fact ⊎ IsSomeAnd (state h choice low key) Fact
  present_place Fact low high x l m o (never n) f = absurd f
  present_place Fact low high x l m o (removed v cut n c q p) f = absurd f
  present_place Fact low high x l m o (stays v n s) f = go (grind arith)
    where
      go : (low ≤ v.revision) ⊎ (v.revision < low) → ComesIn h key low high Fact ⊎ IsSomeAnd (state h choice low key) Fact
      go (inl a) = inl (v, n.0, n.1, a, omega (arith, n.2, m), f)
      go (inr a) = inr (subst (λ z. IsSomeAnd z Fact) (sym (state_of low (Some v) (stays v (n.0, n.1, omega (arith, a), λ w d e b. n.3 w d e (omega (arith, b, l)))
          (λ cut d e. omega (arith, s cut d e, l))))) f)

  pub present_is : (Fact : Version → Type 0) (low high : ℕ) → low ≤ high
      → SomewhereIn low high (λ x. IsSomeAnd (state h choice x key) Fact) ↔ (ComesIn h key low high Fact ⊎ IsSomeAnd (state h choice low key) Fact)
  present_is Fact low high w = ((λ (x, l, m, e). present_place Fact low high x l m (state h choice x key) (state_stands h choice x key) e), back)
    where
      back : ComesIn h key low high Fact ⊎ IsSomeAnd (state h choice low key) Fact → SomewhereIn low high (λ x. IsSomeAnd (state h choice x key) Fact)
      back (inl (v, c, k, l, m, f)) = (v.revision, l, m, subst (λ z. IsSomeAnd z Fact) (sym (own_place v c k)) f)
      back (inr f) = (low, omega arith, w, f)

  -- at one place: the version is there, or gone, by the place of its removal
  by_cut : (place position : ℕ) (v : Version) (removal : Removal) → latest h.versions key place ≡ Some v → IsRemovalAt h position v removal
      → ((slice_index choice position ≤ place) × (state h choice place key ≡ None)) ⊎ ((place < slice_index choice position) × (state h choice place key ≡ Some v))
  by_cut place position v removal e (a, q) = go (grind arith)
    where
      cut : Contains (cuts h.removals choice) (cut_of removal (slice_index choice position))
      cut = cut_at h.removals choice position removal chosen a

      go : (slice_index choice position ≤ place) ⊎ (place < slice_index choice position)
          → ((slice_index choice position ≤ place) × (state h choice place key ≡ None)) ⊎ ((place < slice_index choice position) × (state h choice place key ≡ Some v))
      go (inl l) = inl (l, state_of place None (removed v (cut_of removal (slice_index choice position)) (is_latest place (Some v) e) cut q l))
      go (inr l) = inr (
        l,
        state_of place (Some v) (stays v (is_latest place (Some v) e)
            (λ other d f. omega (arith, l, ap (λ (z : Cut). z.place) (fit.one other (cut_of removal (slice_index choice position)) d cut (f ∙ sym q))))),
      )

  place_chosen : (position : ℕ) (removal : Removal) → slice_get h.removals position ≡ Some removal
      → (removal.range.low ≤ slice_index choice position) × (slice_index choice position ≤ removal.range.high)
  place_chosen position removal a = cut_chosen h.removals choice (cut_of removal (slice_index choice position)) chosen (cut_at h.removals choice position removal chosen a)

  pub absence_is : (place position : ℕ) (v : Version) (removal : Removal) → latest h.versions key place ≡ Some v → IsRemovalAt h position v removal
      → (state h choice place key ≡ None) ↔ Meets choice (absence_bound position removal place)
  absence_is place position v removal e a = go (by_cut place position v removal e a) (place_chosen position removal a.0)
    where
      go : ((slice_index choice position ≤ place) × (state h choice place key ≡ None)) ⊎ ((place < slice_index choice position) × (state h choice place key ≡ Some v))
          → (removal.range.low ≤ slice_index choice position) × (slice_index choice position ≤ removal.range.high)
          → (state h choice place key ≡ None) ↔ Meets choice (absence_bound position removal place)
      go (inl (l, s)) (b, c) = (λ x. (b, omega (arith, l, c)), λ x. s)
      go (inr (l, s)) (b, c) = (λ x. absurd (cc (x, s)), λ x. absurd (omega (arith, x.1, l)))

  pub presence_is : (place position : ℕ) (v : Version) (removal : Removal) → latest h.versions key place ≡ Some v → IsRemovalAt h position v removal
      → (state h choice place key ≡ Some v) ↔ Meets choice (presence_bound position removal place)
  presence_is place position v removal e a = go (by_cut place position v removal e a) (place_chosen position removal a.0)
    where
      go : ((slice_index choice position ≤ place) × (state h choice place key ≡ None)) ⊎ ((place < slice_index choice position) × (state h choice place key ≡ Some v))
          → (removal.range.low ≤ slice_index choice position) × (slice_index choice position ≤ removal.range.high)
          → (state h choice place key ≡ Some v) ↔ Meets choice (presence_bound position removal place)
      go (inl (l, s)) (b, c) = (λ x. absurd (cc (x, s)), λ x. absurd (omega (arith, x.0, l)))
      go (inr (l, s)) (b, c) = (λ x. (omega (arith, l, b), c), λ x. s)

  -- without a removal the version stays
  pub kept : (place : ℕ) (v : Version) → latest h.versions key place ≡ Some v → ((removal : Removal) → Contains h.removals removal → removal.last ≡ v.revision → ⊥) → state h choice place key ≡ Some v
  kept place v e none = state_of place (Some v) (stays v (is_latest place (Some v) e) (λ cut c q. absurd (none cut.removal (cut_removal h.removals choice cut c) q)))

  pub nothing_yet : (place : ℕ) → latest h.versions key place ≡ None → state h choice place key ≡ None
  nothing_yet place e = state_of place None (never (is_latest place None e))

  -- a state is none, or the latest version
  pub none_or_latest : (place : ℕ) (v : Version) → latest h.versions key place ≡ Some v → (state h choice place key ≡ None) ⊎ (state h choice place key ≡ Some v)
  none_or_latest place v e = go (state h choice place key) refl (state_stands h choice place key)
    where
      go : (o : Option Version) → state h choice place key ≡ o → Stands h (cuts h.removals choice) key place o → (state h choice place key ≡ None) ⊎ (state h choice place key ≡ Some v)
      go o q (never l) = inl q
      go o q (removed w cut l c f p) = inl q
      go o q (stays w l s) = inr (q ∙ sym (latest_of place (Some w) l) ∙ e)
