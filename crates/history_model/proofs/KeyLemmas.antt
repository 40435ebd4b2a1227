-- Keys are told apart by their test.
use Rattle.std.proofs.Common.{◌≡◌, ◌≢◌, ◌⊎◌, List, ℕ, Bool, true, false, ◌&&◌, bytes_eq, Decides, inl, inr, refl, sym, ap, ◌∙◌, true≢false}
use Rattle.std.specs.Cmp.Lexicographic.{bytes_decides}
use Rattle.std.proofs.lemmas.Bool.Decides.{Decides-and, Decides-like}
use Rattle.base_types.specs.declared.kubernetes.key.ObjectKey.{ObjectKey}
use Rattle.base_types.specs.Keys.{same_key}

key_of : (group resource namespace name : List ℕ) → ObjectKey
key_of group resource namespace name = record { group = group; resource = resource; namespace = namespace; name = name }

same_parts : (a b : ObjectKey) → (a.group ≡ b.group) × ((a.resource ≡ b.resource) × ((a.namespace ≡ b.namespace) × (a.name ≡ b.name))) → a ≡ b
same_parts a b (g, (r, (s, n))) = λ i. record { group = g i; resource = r i; namespace = s i; name = n i }

parts_same : (a b : ObjectKey) → a ≡ b → (a.group ≡ b.group) × ((a.resource ≡ b.resource) × ((a.namespace ≡ b.namespace) × (a.name ≡ b.name)))
parts_same a b e = (ap (λ k. k.group) e, (ap (λ k. k.resource) e, (ap (λ k. k.namespace) e, ap (λ k. k.name) e)))

pub key_decides : (a b : ObjectKey) → Decides (same_key a b) (a ≡ b)
key_decides a b = Decides-like (same_key a b) (same_parts a b) (parts_same a b)
    (Decides-and (bytes_eq a.group b.group) (bytes_eq a.resource b.resource && (bytes_eq a.namespace b.namespace && bytes_eq a.name b.name)) (bytes_decides a.group b.group)
    (Decides-and (bytes_eq a.resource b.resource) (bytes_eq a.namespace b.namespace && bytes_eq a.name b.name) (bytes_decides a.resource b.resource)
    (Decides-and (bytes_eq a.namespace b.namespace) (bytes_eq a.name b.name) (bytes_decides a.namespace b.namespace) (bytes_decides a.name b.name))))

pub key_is : (a b : ObjectKey) → a ≡ b → same_key a b ≡ true
key_is a b e = (key_decides a b).1 e

pub key_tells : (a b : ObjectKey) → ((same_key a b ≡ true) × (a ≡ b)) ⊎ ((same_key a b ≡ false) × (a ≢ b))
key_tells a b = go (same_key a b) refl
  where
    go : (t : Bool) → same_key a b ≡ t → ((same_key a b ≡ true) × (a ≡ b)) ⊎ ((same_key a b ≡ false) × (a ≢ b))
    go true e = inl (e, (key_decides a b).0 e)
    go false e = inr (e, λ p. true≢false (sym (key_is a b p) ∙ e))

pub key_differs : (a b : ObjectKey) → a ≢ b → same_key a b ≡ false
key_differs a b n = go (key_tells a b)
  where
    go : ((same_key a b ≡ true) × (a ≡ b)) ⊎ ((same_key a b ≡ false) × (a ≢ b)) → same_key a b ≡ false
    go (inl w) = absurd (n w.1)
    go (inr w) = w.0
