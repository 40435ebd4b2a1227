-- The latest version of a key, as a function and as a relation.
use Rattle.std.proofs.Common.{◌≡◌, ◌≢◌, ℕ, suc, ◌<◌, ◌≤◌, ◌⊎◌, true, false, if◌then◌else◌, ◌&&◌, nat_le, nat_lt, List, [], ◌∷◌, Option, Some, None, AllPairs, Contains, inl, inr, refl, ap, ◌∙◌, arith}
use Rattle.std.proofs.lemmas.Bool.Decides.{leb_tells}
use Rattle.base_types.specs.declared.kubernetes.key.ObjectKey.{ObjectKey}
use Rattle.history_model.proofs.KeyLemmas.{key_tells}
use Rattle.history_model.proofs.Members.{not_in_none, here, there, in_cons, apart}
use Rattle.history_model.specs.Histories.{Version}
use Rattle.base_types.specs.Keys.{same_key}
use Rattle.history_model.specs.States.{newer, latest, IsLatest}

lt_tells : (a b : ℕ) → ((nat_lt a b ≡ true) × (a < b)) ⊎ ((nat_lt a b ≡ false) × (b ≤ a))
lt_tells a b = go (leb_tells (suc a) b)
  where
    go : ((nat_le (suc a) b ≡ true) × (suc a ≤ b)) ⊎ ((nat_le (suc a) b ≡ false) × (b < suc a)) → ((nat_lt a b ≡ true) × (a < b)) ⊎ ((nat_lt a b ≡ false) × (b ≤ a))
    go (inl w) = inl (w.0, w.1)
    go (inr w) = inr (w.0, omega (arith, w.1))

abbrev own : Version → ObjectKey → ℕ → Option Version
own v key place = if same_key v.key key && nat_le v.revision place then Some v else None

own_tells : (v : Version) (key : ObjectKey) (place : ℕ)
    → ((own v key place ≡ Some v) × (v.key ≡ key) × (v.revision ≤ place)) ⊎ ((own v key place ≡ None) × (v.key ≡ key → place < v.revision))
own_tells v key place = go (key_tells v.key key) (leb_tells v.revision place)
  where
    go : ((same_key v.key key ≡ true) × (v.key ≡ key)) ⊎ ((same_key v.key key ≡ false) × (v.key ≢ key))
        → ((nat_le v.revision place ≡ true) × (v.revision ≤ place)) ⊎ ((nat_le v.revision place ≡ false) × (place < v.revision))
        → ((own v key place ≡ Some v) × (v.key ≡ key) × (v.revision ≤ place)) ⊎ ((own v key place ≡ None) × (v.key ≡ key → place < v.revision))
    go (inl k) (inl r) = inl (rw (k.0, r.0) refl, k.1, r.1)
    go (inl k) (inr r) = inr (rw (k.0, r.0) refl, λ e. r.1)
    go (inr k) r = inr (rw k.0 refl, λ e. absurd (k.1 e))

-- v in front of a list whose latest is known
in_front : (v : Version) (vs : List Version) (key : ObjectKey) (place : ℕ) (rest : Option Version)
    → IsLatest vs key place rest → IsLatest (v ∷ vs) key place (newer (own v key place) rest)
in_front v vs key place None h = go (own_tells v key place)
  where
    only : v.key ≡ key → v.revision ≤ place → (w : Version) → Contains (v ∷ vs) w → w.key ≡ key → w.revision ≤ place → w.revision ≤ v.revision
    only k r w c e l = at (in_cons v vs w c)
      where
        at : (v ≡ w) ⊎ Contains vs w → w.revision ≤ v.revision
        at (inl p) = omega (arith, ap (λ z. z.revision) p)
        at (inr m) = absurd (omega (arith, h w m e))

    go : ((own v key place ≡ Some v) × (v.key ≡ key) × (v.revision ≤ place)) ⊎ ((own v key place ≡ None) × (v.key ≡ key → place < v.revision))
        → IsLatest (v ∷ vs) key place (newer (own v key place) None)
    go (inl o) = rw o.0 (here v vs, o.1, o.2, only o.1 o.2)
    go (inr o) = rw o.0 (λ w c e. at w e (in_cons v vs w c))
      where
        at : (w : Version) → w.key ≡ key → (v ≡ w) ⊎ Contains vs w → place < w.revision
        at w e (inl p) = omega (arith, o.1 (ap (λ z. z.key) p ∙ e), ap (λ z. z.revision) p)
        at w e (inr m) = h w m e
in_front v vs key place (Some u) h = go (own_tells v key place)
  where
    pick : (v.key ≡ key) → (v.revision ≤ place) → ((nat_lt v.revision u.revision ≡ true) × (v.revision < u.revision)) ⊎ ((nat_lt v.revision u.revision ≡ false) × (u.revision ≤ v.revision))
        → IsLatest (v ∷ vs) key place (newer (Some v) (Some u))
    pick k r (inl t) = rw t.0 (there v u vs h.0, h.1, h.2, λ w c e l. at w e l (in_cons v vs w c))
      where
        at : (w : Version) → w.key ≡ key → w.revision ≤ place → (v ≡ w) ⊎ Contains vs w → w.revision ≤ u.revision
        at w e l (inl p) = omega (arith, ap (λ z. z.revision) p, t.1)
        at w e l (inr m) = h.3 w m e l
    pick k r (inr t) = rw t.0 (here v vs, k, r, λ w c e l. at w e l (in_cons v vs w c))
      where
        at : (w : Version) → w.key ≡ key → w.revision ≤ place → (v ≡ w) ⊎ Contains vs w → w.revision ≤ v.revision
        at w e l (inl p) = omega (arith, ap (λ z. z.revision) p)
        at w e l (inr m) = omega (arith, h.3 w m e l, t.1)

    tells : ((nat_lt v.revision u.revision ≡ true) × (v.revision < u.revision)) ⊎ ((nat_lt v.revision u.revision ≡ false) × (u.revision ≤ v.revision))
    tells = lt_tells v.revision u.revision

    go : ((own v key place ≡ Some v) × (v.key ≡ key) × (v.revision ≤ place)) ⊎ ((own v key place ≡ None) × (v.key ≡ key → place < v.revision))
        → IsLatest (v ∷ vs) key place (newer (own v key place) (Some u))
    go (inl o) = rw o.0 (pick o.1 o.2 tells)
    go (inr o) = rw o.0 (there v u vs h.0, h.1, h.2, λ w c e l. at w e l (in_cons v vs w c))
      where
        at : (w : Version) → w.key ≡ key → w.revision ≤ place → (v ≡ w) ⊎ Contains vs w → w.revision ≤ u.revision
        at w e l (inl p) = absurd (omega (arith, o.1 (ap (λ z. z.key) p ∙ e), ap (λ z. z.revision) p))
        at w e l (inr m) = h.3 w m e l

pub latest_is : (versions : List Version) (key : ObjectKey) (place : ℕ) → IsLatest versions key place (latest versions key place)
latest_is [] key place = λ w c. absurd (not_in_none c)
latest_is (v ∷ vs) key place = in_front v vs key place (latest vs key place) (latest_is vs key place)

pub latest_same : (versions : List Version) (key : ObjectKey) (place : ℕ) (a b : Option Version) → AllPairs (λ v w. v.revision < w.revision) versions
    → IsLatest versions key place a → IsLatest versions key place b → a ≡ b
latest_same versions key place None None rising h k = refl
latest_same versions key place None (Some w) rising h k = absurd (omega (arith, h w k.0 k.1, k.2))
latest_same versions key place (Some v) None rising h k = absurd (omega (arith, k v h.0 h.1, h.2))
latest_same versions key place (Some v) (Some w) rising h k =
    ap Some (apart (λ z. z.revision) versions v w rising h.0 k.0 (omega (arith, h.3 w k.0 k.1 k.2, k.3 v h.0 h.1 h.2)))
