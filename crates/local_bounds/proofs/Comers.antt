-- The versions that have their revisions in a window, from the latest one at its end.
use Rattle.std.proofs.Common.{◌≡◌, ◌≢◌, ℕ, ◌<◌, ◌≤◌, ◌-◌, ◌↔◌, Bool, Option, Some, None, is_some, Contains, map, max, min, refl, sym, subst, arith, true≢false}
use Rattle.std.specs.Prelude.{IsTrue, IsSome}
use Rattle.base_types.specs.declared.kubernetes.key.ObjectKey.{ObjectKey}
use Rattle.history_model.proofs.Members.{apart}
use Rattle.history_model.specs.Bounding.{ComesIn}
use Rattle.history_model.specs.Events.{Item}
use Rattle.history_model.specs.Histories as model
use Rattle.history_model.specs.Histories.{History}
use Rattle.history_model.specs.Readable.{IsReadable}
use Rattle.history_model.specs.Right.{IsShown}
use Rattle.history_model.specs.States.{latest}
use Rattle.object_past.specs.declared.version.Version.{Version}
use Rattle.object_past.specs.Modelled.{version_of}
use Rattle.object_past.specs.Past.{Recorded}
use Rattle.local_bounds.proofs.Pasts.{is_latest_found}
use Rattle.local_bounds.specs.Coming.{IsComer}
use Rattle.local_bounds.specs.Known.{IsPastOf}

module _ (past : Recorded) (h : History) (p : IsPastOf past h) (key : ObjectKey) (low high : ℕ) where
  pub none_comes : None ≡ latest (map version_of past.versions) key high → IsComer h key low high None
  none_comes e = λ w c k from to. absurd (omega (arith, is_latest_found past h p key high None e w c k, to))

  pub none_above : (v : Version) → Some (version_of v) ≡ latest (map version_of past.versions) key high → v.revision < low → IsComer h key low high None
  none_above v e under = λ w c k from to. absurd (omega (arith, (is_latest_found past h p key high (Some (version_of v)) e).3 w c k to))

  pub one_comes : (v : Version) → Some (version_of v) ≡ latest (map version_of past.versions) key high → low ≤ v.revision → IsComer h key low high (Some (version_of v))
  one_comes v e over = let l = is_latest_found past h p key high (Some (version_of v)) e in (l.0, l.1, over, l.2, l.3)

-- what comes, by the last that does
module _ (h : History) (r : IsReadable h) (key : ObjectKey) where
  pub comes_last : (low high : ℕ) (o : Option model.Version) → IsComer h key low high o → IsTrue (is_some o) ↔ ComesIn h key low high (λ v. IsSome (Some v))
  comes_last low high None none = ((λ e. absurd (true≢false (sym e))), λ (v, c, k, l, m, s). absurd (none v c k l m))
  comes_last low high (Some v) last = ((λ e. (v, last.0, last.1, last.2, last.3, refl)), λ s. refl)

  -- the item's version, in the part of the window at its revision
  module _ (low high from to : ℕ) (item : Item) (f : from ≡ max low item.revision) (t : to ≡ min high item.revision) where
    pub item_none : IsComer h key from to None → ComesIn h key low high (λ v. IsShown item (Some v)) → ⊥
    item_none none (v, c, k, l, m, s) = none v c k (omega (arith, s.0)) (omega (arith, s.0))

    pub item_some : (v : model.Version) (test : Bool) → IsComer h key from to (Some v) → IsTrue test ↔ IsShown item (Some v) → IsTrue test ↔ ComesIn h key low high (λ w. IsShown item (Some w))
    item_some v test last shown = ((λ e. (v, last.0, last.1, omega (arith, last.2), omega (arith, last.3), shown.0 e)), back)
      where
        back : ComesIn h key low high (λ w. IsShown item (Some w)) → IsTrue test
        back (w, c, k, l, m, s) = shown.1 (subst (λ z. IsShown item (Some z)) same s)
          where
            same : w ≡ v
            same = apart (λ z. z.revision) h.versions w v r.versions.rising c last.0 (omega (arith, last.4 w c k (omega (arith, s.0)), last.3, s.0))

  -- another revision, as the last that comes, or below it
  pub other_none : (low high revision : ℕ) → IsComer h key low high None → ComesIn h key low high (λ v. v.revision ≢ revision) → ⊥
  other_none low high revision none (v, c, k, l, m, s) = none v c k l m

  pub other_last : (low high revision : ℕ) (v : model.Version) → IsComer h key low high (Some v) → v.revision ≢ revision → ComesIn h key low high (λ w. w.revision ≢ revision)
  other_last low high revision v last n = (v, last.0, last.1, last.2, last.3, n)

  pub other_below : (low high revision : ℕ) (v : model.Version) (o : Option model.Version) → 0 < revision → IsComer h key low high (Some v) → v.revision ≡ revision → IsComer h key low (revision - 1) o
      → IsTrue (is_some o) ↔ ComesIn h key low high (λ w. w.revision ≢ revision)
  other_below low high revision v None some last e none = ((λ f. absurd (true≢false (sym f))), λ (w, c, k, l, m, n). absurd (none w c k l (below w c k m n)))
    where
      below : (w : model.Version) → Contains h.versions w → w.key ≡ key → w.revision ≤ high → w.revision ≢ revision → w.revision ≤ revision - 1
      below w c k m n = omega (arith, last.4 w c k m, e)
  other_below low high revision v (Some u) some last e next = ((λ f. (u, next.0, next.1, next.2, omega (arith, next.3, last.3, e, some), omega (arith, next.3, some))), λ s. refl)

pub comes_so : (h : History) (key : ObjectKey) (low high : ℕ) (P Q : model.Version → Type 0) → ((v : model.Version) → P v → Q v) → ComesIn h key low high P → ComesIn h key low high Q
comes_so h key low high P Q to (v, c, k, l, m, s) = (v, c, k, l, m, to v s)
