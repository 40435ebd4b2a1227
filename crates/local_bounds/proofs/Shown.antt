-- Where a shown object is first there.
use Rattle.std.proofs.Common.{◌≡◌, ℕ, ◌<◌, ◌≤◌, ◌⊎◌, List, Option, Some, None, IsSomeAnd, max, inl, inr, refl, sym, ap, ◌∙◌, subst, arith}
use Rattle.base_types.specs.Choices.{IsChoice}
use Rattle.base_types.specs.declared.kubernetes.key.ObjectKey.{ObjectKey}
use Rattle.clouds.specs.FirstPlace.{HoldsNowhere, IsFirstPlace}
use Rattle.history_model.proofs.Latest.{latest_is}
use Rattle.history_model.proofs.LocalBounds.{nothing_yet, none_or_latest, own_place, present_is}
use Rattle.history_model.specs.Bounding.{ComesIn}
use Rattle.history_model.specs.Events.{Item}
use Rattle.history_model.specs.Histories.{History, Version, ranges}
use Rattle.history_model.specs.Readable.{IsReadable}
use Rattle.history_model.specs.Right.{IsShown}
use Rattle.history_model.specs.States.{latest, IsLatest, state}

some_shown : (item : Item) (o : Option Version) → IsSomeAnd o (λ v. IsShown item (Some v)) → IsShown item o
some_shown item None s = absurd s
some_shown item (Some v) s = s

shown_some : (item : Item) (o : Option Version) → IsShown item o → IsSomeAnd o (λ v. IsShown item (Some v))
shown_some item None s = absurd s
shown_some item (Some v) s = s

module _ (h : History) (choice : List ℕ) (r : IsReadable h) (chosen : IsChoice (ranges h) choice) (key : ObjectKey) (item : Item) (low place : ℕ) (at : place ≡ max low item.revision) where
  behind : (x : ℕ) → low ≤ x → IsShown item (state h choice x key) → place ≤ x
  behind x from s = go (latest h.versions key x) refl
    where
      by : (v : Version) → latest h.versions key x ≡ Some v → (state h choice x key ≡ None) ⊎ (state h choice x key ≡ Some v) → place ≤ x
      by v e (inl n) = absurd (subst (λ o. IsShown item o) n s)
      by v e (inr n) = upto (subst (λ o. IsLatest h.versions key x o) e (latest_is h.versions key x)) (subst (λ o. IsShown item o) n s)
        where
          upto : IsLatest h.versions key x (Some v) → IsShown item (Some v) → place ≤ x
          upto k t = omega (arith, k.2, t.0, from, at)

      go : (o : Option Version) → latest h.versions key x ≡ o → place ≤ x
      go None e = absurd (subst (λ o. IsShown item o) (nothing_yet h choice r chosen key x e) s)
      go (Some v) e = by v e (none_or_latest h choice r chosen key x v e)

  shown_first : (x : ℕ) → low ≤ x → IsShown item (state h choice x key) → IsShown item (state h choice place key)
  shown_first x from s = go ((present_is h choice r chosen key (λ v. IsShown item (Some v)) place x (behind x from s)).0 (x, behind x from s, omega arith, shown_some item (state h choice x key) s))
    where
      go : ComesIn h key place x (λ v. IsShown item (Some v)) ⊎ IsSomeAnd (state h choice place key) (λ v. IsShown item (Some v)) → IsShown item (state h choice place key)
      go (inl (v, c, k, l, m, t)) = subst (λ o. IsShown item o) (sym (ap (λ n. state h choice n key) here ∙ own_place h choice r chosen key v c k)) t
        where
          here : place ≡ v.revision
          here = omega (arith, l, t.0, at)
      go (inr t) = some_shown item (state h choice place key) t

  pub shown_behind : (high : ℕ) → high < place → HoldsNowhere (λ x. IsShown item (state h choice x key)) low high
  shown_behind high under = λ x from upto s. absurd (omega (arith, behind x from s, upto, under))

  pub not_shown_first : (high : ℕ) → (IsShown item (state h choice place key) → ⊥) → HoldsNowhere (λ x. IsShown item (state h choice x key)) low high
  not_shown_first high n = λ x from upto s. n (shown_first x from s)

  pub is_shown_first : (high : ℕ) → place ≤ high → IsShown item (state h choice place key) → IsFirstPlace (λ x. IsShown item (state h choice x key)) low high (Some place)
  is_shown_first high upto s = record { from_low = omega (arith, at); upto_high = upto; here = s; least = λ other from t. behind other from t }
