-- The latest version of a key that has no maker, sought from a place down.
use Rattle.std.proofs.Common.{◌≡◌, ℕ, ◌-◌, ◌<◌, ◌≤◌, true, false, Option, Some, None, Contains, refl, sym, ap, ◌∙◌, subst, arith, true≢false}
use Rattle.std.proofs.lemmas.List.Kept.{AllPairs-filter}
use Rattle.base_types.specs.declared.kubernetes.key.ObjectKey.{ObjectKey}
use Rattle.history_model.proofs.Latest.{latest_is, latest_same}
use Rattle.history_model.proofs.Members.{apart}
use Rattle.history_model.proofs.Steps.{in_filter, filter_in}
use Rattle.history_model.specs.Histories.{History, Version}
use Rattle.history_model.specs.Readable.{IsReadable}
use Rattle.history_model.specs.States.{latest, IsLatest}
use Rattle.serial_machine.proofs.Unmade.{unmade_parts, is_unmade_by}
use Rattle.serial_machine.specs.Held.{has_no_maker, is_unmade, unmade}

-- the key's versions without a maker are up to the place
pub record AreUpto (h : History) (key : ObjectKey) (low high place : ℕ) : Type 0 where
  pub within : place ≤ high
  pub upto : (v : Version) → Contains h.versions v → v.key ≡ key → is_unmade low high v ≡ true → v.revision ≤ place

pub upto_all : (h : History) (key : ObjectKey) (low high : ℕ) → AreUpto h key low high high
upto_all h key low high = record { within = omega arith; upto = λ v c k u. (unmade_parts low high v u).1.1 }

none_sought : (h : History) (key : ObjectKey) (low high : ℕ) → ((v : Version) → Contains h.versions v → v.key ≡ key → is_unmade low high v ≡ true → ⊥) → latest (unmade h low high) key high ≡ None
none_sought h key low high none = go (latest (unmade h low high) key high) refl (latest_is (unmade h low high) key high)
  where
    go : (o : Option Version) → latest (unmade h low high) key high ≡ o → IsLatest (unmade h low high) key high o → latest (unmade h low high) key high ≡ None
    go None e is = e
    go (Some v) e is = let f : Contains h.versions v × (is_unmade low high v ≡ true) = in_filter (is_unmade low high) h.versions v is.0 in absurd (none v f.0 is.1 f.1)

module _ (h : History) (r : IsReadable h) (key : ObjectKey) (low high place : ℕ) (are : AreUpto h key low high place) where
  pub seek_end : place ≤ low → latest (unmade h low high) key high ≡ None
  seek_end l = none_sought h key low high (λ v c k u. omega (arith, l, are.upto v c k u, (unmade_parts low high v u).1.0))

  pub seek_none : None ≡ latest h.versions key place → latest (unmade h low high) key high ≡ None
  seek_none e = go (subst (IsLatest h.versions key place) (sym e) (latest_is h.versions key place))
    where
      go : IsLatest h.versions key place None → latest (unmade h low high) key high ≡ None
      go is = none_sought h key low high (λ v c k u. omega (arith, is v c k, are.upto v c k u))

  module _ (v : Version) (e : Some v ≡ latest h.versions key place) where
    found : IsLatest h.versions key place (Some v)
    found = subst (IsLatest h.versions key place) (sym e) (latest_is h.versions key place)

    pub seek_old : v.revision ≤ low → latest (unmade h low high) key high ≡ None
    seek_old l = none_sought h key low high (λ w c k u. omega (arith, l, found.3 w c k (are.upto w c k u), (unmade_parts low high w u).1.0))

    pub seek_here : low < v.revision → has_no_maker v.maker ≡ true → latest (unmade h low high) key high ≡ Some v
    seek_here l m = latest_same (unmade h low high) key high (latest (unmade h low high) key high) (Some v)
        (AllPairs-filter (λ a b. a.revision < b.revision) (is_unmade low high) h.versions r.versions.rising)
        (latest_is (unmade h low high) key high)
        (filter_in (is_unmade low high) h.versions v found.0 (is_unmade_by low high v m l below), found.1, below, most)
      where
        below : v.revision ≤ high
        below = omega (arith, found.2, are.within)

        most : (w : Version) → Contains (unmade h low high) w → w.key ≡ key → w.revision ≤ high → w.revision ≤ v.revision
        most w c k l = let f : Contains h.versions w × (is_unmade low high w ≡ true) = in_filter (is_unmade low high) h.versions w c in found.3 w f.0 k (are.upto w f.0 k f.1)

    pub seek_on : low < v.revision → has_no_maker v.maker ≡ false → AreUpto h key low high (v.revision - 1)
    seek_on l m = record { within = omega (arith, found.2, are.within); upto = upto }
      where
        upto : (w : Version) → Contains h.versions w → w.key ≡ key → is_unmade low high w ≡ true → w.revision ≤ v.revision - 1
        upto w c k u = below (w.revision) (v.revision) (found.3 w c k (are.upto w c k u)) other
          where
            below : (a b : ℕ) → a ≤ b → (a ≡ b → ⊥) → a ≤ b - 1
            below a b l n = omega (arith, l, n)

            other : w.revision ≡ v.revision → ⊥
            other q = let same : w ≡ v = apart (λ z. z.revision) h.versions w v r.versions.rising c found.0 q in
                true≢false (sym (unmade_parts low high w u).0 ∙ ap (λ (z : Version). has_no_maker z.maker) same ∙ m)

pub last_upto : (h : History) (key : ObjectKey) (place : ℕ) (v : Version) → Some v ≡ latest h.versions key place → v.revision ≤ place
last_upto h key place v e = go (subst (IsLatest h.versions key place) (sym e) (latest_is h.versions key place))
  where
    go : IsLatest h.versions key place (Some v) → v.revision ≤ place
    go is = is.2
