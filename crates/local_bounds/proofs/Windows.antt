-- Where in a window an object is as an answer says.
use Rattle.std.proofs.Common.{◌≡◌, ℕ, ◌<◌, ◌≤◌, ◌⊎◌, ◌↔◌, Bool, true, List, Option, Some, None, IsSome, IsNone, IsSomeAnd, Contains, inl, inr, refl, sym, subst, arith, true≢false}
use Rattle.std.specs.Prelude.{IsTrue}
use Rattle.base_types.specs.Choices.{IsChoice}
use Rattle.base_types.specs.declared.kubernetes.key.ObjectKey.{ObjectKey}
use Rattle.history_model.proofs.Latest.{latest_is, latest_same}
use Rattle.history_model.proofs.LocalBounds.{absent_is, present_is, none_or_latest, nothing_yet}
use Rattle.history_model.specs.Bounding.{SomewhereIn, IsAbsentAnyway, ComesIn}
use Rattle.history_model.specs.Events.{Conditions}
use Rattle.history_model.specs.Histories.{History, Version, ranges}
use Rattle.history_model.specs.Readable.{IsReadable}
use Rattle.history_model.specs.Right.{IsRefused}
use Rattle.history_model.specs.States.{latest, IsLatest, state}
use Rattle.local_bounds.specs.declared.sight.Sight.{Sight}
use Rattle.local_bounds.specs.Sights.{IsSeen, IsSeenWithin}

pub none_is : (o : Option Version) → IsNone o → o ≡ None
none_is None n = refl
none_is (Some v) n = absurd (true≢false n)

pub is_none_from : (o : Option Version) → o ≡ None → IsNone o
is_none_from None e = refl
is_none_from (Some v) e = absurd (cc e)

-- a fact of places that another one has too
pub somewhere : (low high : ℕ) (P Q : ℕ → Type 0) → ((x : ℕ) → P x → Q x) → SomewhereIn low high P → SomewhereIn low high Q
somewhere low high P Q to (x, l, m, s) = (x, l, m, to x s)

seen_some : (sight : Sight) (o : Option Version) → (IsSeen sight None → ⊥) → IsSeen sight o → IsSomeAnd o (λ v. IsSeen sight (Some v))
seen_some sight None n s = absurd (n s)
seen_some sight (Some v) n s = s

some_seen : (sight : Sight) (o : Option Version) → IsSomeAnd o (λ v. IsSeen sight (Some v)) → IsSeen sight o
some_seen sight None s = absurd s
some_seen sight (Some v) s = s

-- where none of one kind is, the other is alone
pub other_alone : (low high : ℕ) (C Q : ℕ → Type 0) → ((x : ℕ) → low ≤ x → x ≤ high → C x → ⊥) → SomewhereIn low high Q ↔ SomewhereIn low high (λ x. C x ⊎ Q x)
other_alone low high C Q none = (somewhere low high Q (λ x. C x ⊎ Q x) (λ x q. inr q), back)
  where
    back : SomewhereIn low high (λ x. C x ⊎ Q x) → SomewhereIn low high Q
    back (x, l, m, inl c) = absurd (none x l m c)
    back (x, l, m, inr q) = (x, l, m, q)

pub absent_seen : (h : History) (choice : List ℕ) (key : ObjectKey) (low high : ℕ)
    → SomewhereIn low high (λ x. state h choice x key ≡ None) ↔ SomewhereIn low high (λ x. IsNone (state h choice x key))
absent_seen h choice key low high = (
  somewhere low high (λ x. state h choice x key ≡ None) (λ x. IsNone (state h choice x key)) (λ x. is_none_from (state h choice x key)),
  somewhere low high (λ x. IsNone (state h choice x key)) (λ x. state h choice x key ≡ None) (λ x. none_is (state h choice x key)),
)

module _ (h : History) (choice : List ℕ) (r : IsReadable h) (chosen : IsChoice (ranges h) choice) (key : ObjectKey) (low high : ℕ) (w : low ≤ high) where
  -- what is present is seen where it comes, or at the first place
  pub there_is : (sight : Sight) → (IsSeen sight None → ⊥)
      → (ComesIn h key low high (λ v. IsSeen sight (Some v)) ⊎ IsSeen sight (state h choice low key)) ↔ IsSeenWithin h choice key sight low high
  there_is sight n = (
    to,
    λ s. from ((present_is h choice r chosen key (λ v. IsSeen sight (Some v)) low high w).0
        (somewhere low high (λ x. IsSeen sight (state h choice x key)) (λ x. IsSomeAnd (state h choice x key) (λ v. IsSeen sight (Some v))) (λ x. seen_some sight (state h choice x key) n) s)),
  )
    where
      back : ComesIn h key low high (λ v. IsSeen sight (Some v)) ⊎ IsSomeAnd (state h choice low key) (λ v. IsSeen sight (Some v)) → IsSeenWithin h choice key sight low high
      back s = somewhere low high (λ x. IsSomeAnd (state h choice x key) (λ v. IsSeen sight (Some v))) (λ x. IsSeen sight (state h choice x key)) (λ x. some_seen sight (state h choice x key))
          ((present_is h choice r chosen key (λ v. IsSeen sight (Some v)) low high w).1 s)

      to : ComesIn h key low high (λ v. IsSeen sight (Some v)) ⊎ IsSeen sight (state h choice low key) → IsSeenWithin h choice key sight low high
      to (inl s) = back (inl s)
      to (inr s) = back (inr (seen_some sight (state h choice low key) n s))

      from : ComesIn h key low high (λ v. IsSeen sight (Some v)) ⊎ IsSomeAnd (state h choice low key) (λ v. IsSeen sight (Some v))
          → ComesIn h key low high (λ v. IsSeen sight (Some v)) ⊎ IsSeen sight (state h choice low key)
      from (inl s) = inl s
      from (inr s) = inr (some_seen sight (state h choice low key) s)

  -- where none comes, what is present is so at the first place
  pub first_there : (sight : Sight) → (IsSeen sight None → ⊥) → (ComesIn h key low high (λ v. IsSeen sight (Some v)) → ⊥) → IsSeen sight (state h choice low key) ↔ IsSeenWithin h choice key sight low high
  first_there sight n none = ((λ s. (there_is sight n).0 (inr s)), λ s. go ((there_is sight n).1 s))
    where
      go : ComesIn h key low high (λ v. IsSeen sight (Some v)) ⊎ IsSeen sight (state h choice low key) → IsSeen sight (state h choice low key)
      go (inl s) = absurd (none s)
      go (inr s) = s

  -- where nothing is absent anyway, what is absent is so at the last place
  pub last_absent : (SomewhereIn low high (IsAbsentAnyway h key) → ⊥) → IsNone (state h choice high key) ↔ SomewhereIn low high (λ x. state h choice x key ≡ None)
  last_absent n = ((λ e. (absent_is h choice r chosen key low high w).1 (inr (none_is (state h choice high key) e))), λ s. go ((absent_is h choice r chosen key low high w).0 s))
    where
      go : SomewhereIn low high (IsAbsentAnyway h key) ⊎ (state h choice high key ≡ None) → IsNone (state h choice high key)
      go (inl a) = absurd (n a)
      go (inr e) = is_none_from (state h choice high key) e

  -- with a uid a Conflict is right where the latest version is refused, or where the object is absent
  pub refused_is : (conditions : Conditions) → IsSome conditions.uid
      → (SomewhereIn low high (λ x. IsSomeAnd (latest h.versions key x) (λ v. IsRefused conditions (Some v))) ⊎ SomewhereIn low high (λ x. state h choice x key ≡ None))
      ↔ SomewhereIn low high (λ x. IsRefused conditions (state h choice x key))
  refused_is conditions u = (to, from)
    where
      absent : (x : ℕ) → state h choice x key ≡ None → IsRefused conditions (state h choice x key)
      absent x e = subst (λ o. IsRefused conditions o) (sym e) u

      at_version : (x : ℕ) (v : Version) → latest h.versions key x ≡ Some v → IsRefused conditions (Some v) → (state h choice x key ≡ None) ⊎ (state h choice x key ≡ Some v)
          → IsRefused conditions (state h choice x key)
      at_version x v e s (inl n) = absent x n
      at_version x v e s (inr n) = subst (λ o. IsRefused conditions o) (sym n) s

      at_latest : (x : ℕ) (o : Option Version) → latest h.versions key x ≡ o → IsSomeAnd o (λ v. IsRefused conditions (Some v)) → IsRefused conditions (state h choice x key)
      at_latest x None e s = absurd s
      at_latest x (Some v) e s = at_version x v e s (none_or_latest h choice r chosen key x v e)

      to : SomewhereIn low high (λ x. IsSomeAnd (latest h.versions key x) (λ v. IsRefused conditions (Some v))) ⊎ SomewhereIn low high (λ x. state h choice x key ≡ None)
          → SomewhereIn low high (λ x. IsRefused conditions (state h choice x key))
      to (inl (x, l, m, s)) = (x, l, m, at_latest x (latest h.versions key x) refl s)
      to (inr (x, l, m, e)) = (x, l, m, absent x e)

      from : SomewhereIn low high (λ x. IsRefused conditions (state h choice x key))
          → SomewhereIn low high (λ x. IsSomeAnd (latest h.versions key x) (λ v. IsRefused conditions (Some v))) ⊎ SomewhereIn low high (λ x. state h choice x key ≡ None)
      from (x, l, m, s) = by (latest h.versions key x) refl
        where
          present : (v : Version) → latest h.versions key x ≡ Some v → (state h choice x key ≡ None) ⊎ (state h choice x key ≡ Some v)
              → SomewhereIn low high (λ x. IsSomeAnd (latest h.versions key x) (λ v. IsRefused conditions (Some v))) ⊎ SomewhereIn low high (λ x. state h choice x key ≡ None)
          present v e (inl n) = inr (x, l, m, n)
          present v e (inr n) = inl (x, l, m, subst (λ o. IsSomeAnd o (λ v. IsRefused conditions (Some v))) (sym e) (subst (λ o. IsRefused conditions o) n s))

          by : (o : Option Version) → latest h.versions key x ≡ o
              → SomewhereIn low high (λ x. IsSomeAnd (latest h.versions key x) (λ v. IsRefused conditions (Some v))) ⊎ SomewhereIn low high (λ x. state h choice x key ≡ None)
          by None e = inr (x, l, m, nothing_yet h choice r chosen key x e)
          by (Some v) e = present v e (none_or_latest h choice r chosen key x v e)

  -- where the latest version is refused nowhere, only the absent object is right
  pub only_absent : (conditions : Conditions) → IsSome conditions.uid → (SomewhereIn low high (λ x. IsSomeAnd (latest h.versions key x) (λ v. IsRefused conditions (Some v))) → ⊥)
      → SomewhereIn low high (λ x. state h choice x key ≡ None) ↔ SomewhereIn low high (λ x. IsRefused conditions (state h choice x key))
  only_absent conditions u n = ((λ s. (refused_is conditions u).0 (inr s)), λ s. go ((refused_is conditions u).1 s))
    where
      go : SomewhereIn low high (λ x. IsSomeAnd (latest h.versions key x) (λ v. IsRefused conditions (Some v))) ⊎ SomewhereIn low high (λ x. state h choice x key ≡ None)
          → SomewhereIn low high (λ x. state h choice x key ≡ None)
      go (inl s) = absurd (n s)
      go (inr s) = s

-- a latest version with a fact is in the window where one comes, or at the first place
module _ (h : History) (r : IsReadable h) (key : ObjectKey) (Fact : Version → Type 0) (low high : ℕ) (w : low ≤ high) where
  own_latest : (v : Version) → Contains h.versions v → v.key ≡ key → latest h.versions key v.revision ≡ Some v
  own_latest v c k = latest_same h.versions key v.revision (latest h.versions key v.revision) (Some v) r.versions.rising (latest_is h.versions key v.revision) (c, k, omega arith, λ u d f b. b)

  pub latest_comes : SomewhereIn low high (λ x. IsSomeAnd (latest h.versions key x) Fact) → ComesIn h key low high Fact ⊎ IsSomeAnd (latest h.versions key low) Fact
  latest_comes (x, l, m, s) = by (latest h.versions key x) (latest_is h.versions key x) s
    where
      by : (o : Option Version) → IsLatest h.versions key x o → IsSomeAnd o Fact → ComesIn h key low high Fact ⊎ IsSomeAnd (latest h.versions key low) Fact
      by None k f = absurd f
      by (Some v) k f = go (grind arith)
        where
          here : v.revision < low → latest h.versions key low ≡ Some v
          here a = latest_same h.versions key low (latest h.versions key low) (Some v) r.versions.rising (latest_is h.versions key low)
              (k.0, k.1, omega (arith, a), λ u d e b. k.3 u d e (omega (arith, b, l)))

          go : (low ≤ v.revision) ⊎ (v.revision < low) → ComesIn h key low high Fact ⊎ IsSomeAnd (latest h.versions key low) Fact
          go (inl a) = inl (v, k.0, k.1, a, omega (arith, k.2, m), f)
          go (inr a) = inr (subst (λ o. IsSomeAnd o Fact) (sym (here a)) f)

  pub comes_latest : ComesIn h key low high Fact → SomewhereIn low high (λ x. IsSomeAnd (latest h.versions key x) Fact)
  comes_latest (v, c, k, l, m, f) = (v.revision, l, m, subst (λ o. IsSomeAnd o Fact) (sym (own_latest v c k)) f)

  pub by_coming : (test : Bool) → IsTrue test ↔ ComesIn h key low high Fact → (IsSomeAnd (latest h.versions key low) Fact → ⊥)
      → IsTrue test ↔ SomewhereIn low high (λ x. IsSomeAnd (latest h.versions key x) Fact)
  by_coming test comes none = ((λ e. comes_latest (comes.0 e)), λ s. go (latest_comes s))
    where
      go : ComesIn h key low high Fact ⊎ IsSomeAnd (latest h.versions key low) Fact → IsTrue test
      go (inl s) = comes.1 s
      go (inr s) = absurd (none s)

  pub at_first : IsSomeAnd (latest h.versions key low) Fact → IsTrue true ↔ SomewhereIn low high (λ x. IsSomeAnd (latest h.versions key x) Fact)
  at_first s = ((λ e. (low, omega arith, w, s)), λ t. refl)
