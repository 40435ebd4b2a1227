-- At a list's one place each key that it asks for has a range of its own.
use Rattle.std.proofs.Common.{◌≡◌, ℕ, ◌⊎◌, ◌↔◌, List, Option, Some, None, Contains, slice_get, inl, inr, sym, ap, ◌∙◌, subst}
use Rattle.base_types.specs.Choices.{IsChoice, Meets, MeetsAll}
use Rattle.base_types.specs.declared.verdict.claim.Bound.{Bound}
use Rattle.base_types.specs.declared.kubernetes.key.ObjectKey.{ObjectKey}
use Rattle.history_model.proofs.LocalBounds.{absence_is, presence_is, kept, nothing_yet, none_or_latest}
use Rattle.history_model.proofs.Latest.{latest_is}
use Rattle.history_model.proofs.Members.{apart, at_in, all_at, all_from}
use Rattle.history_model.specs.Bounding.{IsRemovalAt, absence_bound, presence_bound, Demand, Shows, Lacks, demand_key, IsAsked, IsFree, clouded, none_there, unlisted, stays, IsBounded, goes, remains, IsNever, is_there, not_there, another, AreListBounds}
use Rattle.history_model.specs.Clouds.{IsClouded}
use Rattle.history_model.specs.Events.{Listing}
use Rattle.history_model.specs.Histories.{History, Version, Removal, ranges}
use Rattle.history_model.specs.Incarnations.{IsRemoval}
use Rattle.history_model.specs.Readable.{IsReadable}
use Rattle.history_model.specs.Right.{IsShown, IsListed, IsUnlistable, IsLacked, IsListRight}
use Rattle.history_model.specs.States.{latest, IsLatest, state}

-- what a demand asks of the object that is there
abbrev Holds : History → ℕ → ℕ → Demand → Option Version → Type 0
Holds h number place (Shows item) found = IsListed h number place item found
Holds h number place (Lacks key) found = IsLacked h number place key found

module _ (h : History) (choice : List ℕ) (r : IsReadable h) (chosen : IsChoice (ranges h) choice) (number place : ℕ) where
  at_cloud : (d : Demand) → IsClouded h (demand_key d) place → Holds h number place d (state h choice place (demand_key d))
  at_cloud (Shows item) c = inl c
  at_cloud (Lacks key) c = inl c

  free_holds : (d : Demand) → IsFree h number place d → Holds h number place d (state h choice place (demand_key d))
  free_holds d (clouded c) = at_cloud d c
  free_holds d (none_there key e l) = subst (λ z. Holds h number place z (state h choice place (demand_key z))) (sym e)
      (inr (subst (λ o. IsUnlistable h number o) (sym (nothing_yet h choice r chosen key place l)) tt))
  free_holds d (unlisted key v e l u) = subst (λ z. Holds h number place z (state h choice place (demand_key z))) (sym e) (inr (go (none_or_latest h choice r chosen key place v l)))
    where
      go : (state h choice place key ≡ None) ⊎ (state h choice place key ≡ Some v) → IsUnlistable h number (state h choice place key)
      go (inl n) = subst (λ o. IsUnlistable h number o) (sym n) tt
      go (inr n) = subst (λ o. IsUnlistable h number o) (sym n) u
  free_holds d (stays item v e l w none) = subst (λ z. Holds h number place z (state h choice place (demand_key z))) (sym e)
      (inr (subst (λ o. IsShown item o) (sym (kept h choice r chosen item.key place v l none)) w.0, w.1))

  bounded_holds : (d : Demand) (bound : Bound) → IsBounded h number place d bound → Holds h number place d (state h choice place (demand_key d)) ↔ Meets choice bound
  bounded_holds d bound (goes key v position removal e n l u a b) =
      subst (λ z. Holds h number place z (state h choice place (demand_key z)) ↔ Meets choice bound) (sym e)
      (subst (λ z. Holds h number place (Lacks key) (state h choice place key) ↔ Meets choice z) (sym b) (to, from))
    where
      law : (state h choice place key ≡ None) ↔ Meets choice (absence_bound position removal place)
      law = absence_is h choice r chosen key place position v removal l a

      by : (state h choice place key ≡ None) ⊎ (state h choice place key ≡ Some v) → IsUnlistable h number (state h choice place key) → state h choice place key ≡ None
      by (inl q) x = q
      by (inr q) x = absurd (u (subst (λ o. IsUnlistable h number o) q x))

      to : Holds h number place (Lacks key) (state h choice place key) → Meets choice (absence_bound position removal place)
      to (inl c) = absurd (n c)
      to (inr x) = law.0 (by (none_or_latest h choice r chosen key place v l) x)

      from : Meets choice (absence_bound position removal place) → Holds h number place (Lacks key) (state h choice place key)
      from m = inr (subst (λ o. IsUnlistable h number o) (sym (law.1 m)) tt)
  bounded_holds d bound (remains item v position removal e n l w a b) =
      subst (λ z. Holds h number place z (state h choice place (demand_key z)) ↔ Meets choice bound) (sym e)
      (subst (λ z. Holds h number place (Shows item) (state h choice place item.key) ↔ Meets choice z) (sym b) (to, from))
    where
      law : (state h choice place item.key ≡ Some v) ↔ Meets choice (presence_bound position removal place)
      law = presence_is h choice r chosen item.key place position v removal l a

      by : (state h choice place item.key ≡ None) ⊎ (state h choice place item.key ≡ Some v) → IsShown item (state h choice place item.key) → state h choice place item.key ≡ Some v
      by (inr q) x = q
      by (inl q) x = absurd (subst (λ o. IsShown item o) q x)

      to : Holds h number place (Shows item) (state h choice place item.key) → Meets choice (presence_bound position removal place)
      to (inl c) = absurd (n c)
      to (inr x) = law.0 (by (none_or_latest h choice r chosen item.key place v l) x.0)

      from : Meets choice (presence_bound position removal place) → Holds h number place (Shows item) (state h choice place item.key)
      from m = inr (subst (λ o. IsShown item o) (sym (law.1 m)) w.0, w.1)

  never_holds : (d : Demand) → IsNever h number place d → Holds h number place d (state h choice place (demand_key d)) → ⊥
  never_holds d (is_there key v e n l u none) x = go (subst (λ z. Holds h number place z (state h choice place (demand_key z))) e x)
    where
      go : Holds h number place (Lacks key) (state h choice place key) → ⊥
      go (inl c) = n c
      go (inr y) = u (subst (λ o. IsUnlistable h number o) (kept h choice r chosen key place v l none) y)
  never_holds d (not_there item e n l) x = go (subst (λ z. Holds h number place z (state h choice place (demand_key z))) e x)
    where
      go : Holds h number place (Shows item) (state h choice place item.key) → ⊥
      go (inl c) = n c
      go (inr y) = subst (λ o. IsShown item o) (nothing_yet h choice r chosen item.key place l) y.0
  never_holds d (another item v e n l w) x = go (subst (λ z. Holds h number place z (state h choice place (demand_key z))) e x)
    where
      by : (state h choice place item.key ≡ None) ⊎ (state h choice place item.key ≡ Some v) → IsShown item (state h choice place item.key) → IsShown item (Some v)
      by (inl q) y = absurd (subst (λ o. IsShown item o) q y)
      by (inr q) y = subst (λ o. IsShown item o) q y

      go : Holds h number place (Shows item) (state h choice place item.key) → ⊥
      go (inl c) = n c
      go (inr y) = w (by (none_or_latest h choice r chosen item.key place v l) y.0, y.1)

  -- a list is right where each key that it asks for is
  list_asks : (listing : Listing) (d : Demand) → IsListRight h number listing place (state h choice place) → IsAsked listing d → Holds h number place d (state h choice place (demand_key d))
  list_asks listing (Shows item) l a = l.shows item a
  list_asks listing (Lacks key) l a = l.lacks a.0 key a.1 a.2

  pub list_is : (listing : Listing) (bounds : List Bound) → AreListBounds h number listing place bounds → IsListRight h number listing place (state h choice place) ↔ MeetsAll choice bounds
  list_is listing bounds b = (to, from)
    where
      to : IsListRight h number listing place (state h choice place) → MeetsAll choice bounds
      to l = all_from (Meets choice) bounds (λ bound c. at bound (b.sound bound c))
        where
          at : (bound : Bound) → (d : Demand) × IsAsked listing d × IsBounded h number place d bound → Meets choice bound
          at bound (d, a, x) = (bounded_holds d bound x).0 (list_asks listing d l a)

      from : MeetsAll choice bounds → IsListRight h number listing place (state h choice place)
      from m = record {
        at_revision = b.at_revision;
        distinct = b.distinct;
        shows = λ item c. holds (Shows item) (b.full (Shows item) c);
        lacks = λ w key s n. holds (Lacks key) (b.full (Lacks key) (w, s, n));
      }
        where
          holds : (d : Demand) → IsFree h number place d ⊎ ((bound : Bound) × Contains bounds bound × IsBounded h number place d bound) → Holds h number place d (state h choice place (demand_key d))
          holds d (inl f) = free_holds d f
          holds d (inr (bound, c, x)) = (bounded_holds d bound x).1 (all_at (Meets choice) bounds bound m c)

  pub list_never : (listing : Listing) (d : Demand) → IsAsked listing d → IsNever h number place d → IsListRight h number listing place (state h choice place) → ⊥
  list_never listing d a n l = never_holds d n (list_asks listing d l a)

-- the range of a bound is that of the key's own removal
own_range : (h : History) (number place : ℕ) (d : Demand) (bound : Bound) → IsReadable h → IsBounded h number place d bound
    → (removal : Removal) × (slice_get h.removals bound.range ≡ Some removal) × (removal.key ≡ demand_key d)
own_range h number place d bound r x = go x
  where
    key_is : (key : ObjectKey) (v : Version) (position : ℕ) (removal : Removal) → latest h.versions key place ≡ Some v → IsRemovalAt h position v removal → removal.key ≡ key
    key_is key v position removal l a = at (r.removals.sound removal (at_in h.removals position removal a.0)) (subst (λ z. IsLatest h.versions key place z) l (latest_is h.versions key place))
      where
        at : IsRemoval h removal → IsLatest h.versions key place (Some v) → removal.key ≡ key
        at i k = i.behind.of_key ∙ ap (λ (z : Version). z.key) (apart (λ z. z.revision) h.versions i.version v r.versions.rising i.known k.0 (sym i.behind.of_last ∙ a.1)) ∙ k.1

    go : IsBounded h number place d bound → (removal : Removal) × (slice_get h.removals bound.range ≡ Some removal) × (removal.key ≡ demand_key d)
    go (goes key v position removal e n l u a b) = (removal, ap (λ (z : Bound). slice_get h.removals z.range) b ∙ a.0, key_is key v position removal l a ∙ sym (ap demand_key e))
    go (remains item v position removal e n l w a b) = (removal, ap (λ (z : Bound). slice_get h.removals z.range) b ∙ a.0, key_is item.key v position removal l a ∙ sym (ap demand_key e))

pub one_range : (h : History) (number place : ℕ) (a b : Demand) (x y : Bound) → IsReadable h → IsBounded h number place a x → IsBounded h number place b y
    → x.range ≡ y.range → demand_key a ≡ demand_key b
one_range h number place a b x y r p q e = go (own_range h number place a x r p) (own_range h number place b y r q)
  where
    go : (removal : Removal) × (slice_get h.removals x.range ≡ Some removal) × (removal.key ≡ demand_key a) → (removal : Removal) × (slice_get h.removals y.range ≡ Some removal) × (removal.key ≡ demand_key b)
        → demand_key a ≡ demand_key b
    go (u, ue, uk) (v, ve, vk) = sym uk ∙ ap (λ (z : Removal). z.key) same ∙ vk
      where
        found : slice_get h.removals x.range ≡ Some v
        found = ap (slice_get h.removals) e ∙ ve

        same : u ≡ v
        same = cc (ue, found)
