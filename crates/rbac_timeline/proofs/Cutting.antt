-- A part of a list that is kept in order by a number.
use Rattle.std.proofs.Common.{◌≡◌, ℕ, ◌+◌, ◌-◌, ◌<◌, ◌≤◌, ⊎_elim, List, [], length, get_or, take, drop, ◌∙◌, subst, sym, ap, arith}
use Rattle.std.specs.BTreeMap.{BTreeMap}
use Rattle.std.specs.List.{Contains}
use Rattle.std.specs.List.Sorted.{IsNonDecreasingBy}
use Rattle.std.proofs.lemmas.Bool.{cases_lt, leb-false, leb-true}
use Rattle.std.proofs.lemmas.List.{get_or-drop, get_or-take, length-drop, length-take}
use Rattle.base_types.specs.declared.kubernetes.key.ObjectKey.{ObjectKey}
use Rattle.clouds.specs.Items.{items_at}
use Rattle.clouds.specs.Kept.{key_order}
use Rattle.rbac_timeline.specs.declared.history.Stored.{Stored}
use Rattle.rbac_timeline.specs.declared.version.RbacVersion.{RbacVersion}
use Rattle.rbac_timeline.specs.Kept.{AreStored, stored_of}
use Rattle.rbac_timeline.specs.Pairs.{AreStoredBetween, AreVersionsBetween}
use Rattle.base_types.proofs.Upto.{Upto}

pub front_in_order : {X : Type 0} (number : X → ℕ) (xs : List X) (n : ℕ) → IsNonDecreasingBy number xs → IsNonDecreasingBy number (take n xs)
front_in_order number xs n order = λ i j d less among.
    let within : j < n = omega (arith, length-take n xs) in
    let there : j < length xs = omega (arith, length-take n xs) in
    let up : number (get_or xs i d) ≤ number (get_or xs j d) = order i j d less there in
    let first : number (get_or (take n xs) i d) ≡ number (get_or xs i d) = ap number (get_or-take n xs i d (omega arith)) in
    let second : number (get_or (take n xs) j d) ≡ number (get_or xs j d) = ap number (get_or-take n xs j d within) in
    omega arith

module _ {X : Type 0} (number : X → ℕ) (xs : List X) (low high upto begun : ℕ) (parts : Upto number high xs upto) (within : upto ≤ length xs)
    (front_parts : Upto number low (take upto xs) begun) (front_within : begun ≤ length (take upto xs)) where
  abbrev cut : List X
  cut = drop begun (take upto xs)

  cut_at : (k : ℕ) (d : X) → k < length cut → (begun + k < upto) × (get_or cut k d ≡ get_or xs (begun + k) d)
  cut_at k d among =
      let inside : begun + k < upto = omega (arith, length-drop begun (take upto xs), length-take upto xs) in
      (inside, get_or-drop begun (take upto xs) k d ∙ get_or-take upto xs (begun + k) d inside)

  pub cut_among : (x : X) → Contains cut x → Contains xs x
  cut_among x among =
      let at = cut_at among.0 x among.1 in
      let inside : begun + among.0 < upto = at.0 in
      (begun + among.0, omega arith, sym at.1 ∙ among.2)

  pub cut_between : (x : X) → Contains cut x → (low < number x) × (number x ≤ high)
  cut_between x among =
      let k : ℕ = among.0 in
      let at = cut_at k x among.1 in
      let inside : begun + k < upto = at.0 in
      let value : number (get_or cut k x) ≡ number (get_or xs (begun + k) x) = ap number at.1 in
      let is : number (get_or cut k x) ≡ number x = ap number among.2 in
      let below : number (get_or xs (begun + k) x) ≤ high = leb-true (number (get_or xs (begun + k) x)) high (parts.0 (begun + k) x (omega arith) inside) in
      let in_front : number (get_or (take upto xs) (begun + k) x) ≡ number (get_or xs (begun + k) x) = ap number (get_or-take upto xs (begun + k) x inside) in
      let long : begun + k < length (take upto xs) = omega (arith, length-take upto xs) in
      let above : low < number (get_or (take upto xs) (begun + k) x) = leb-false (number (get_or (take upto xs) (begun + k) x)) low (front_parts.1 (begun + k) x (omega arith) long) in
      (omega arith, omega arith)

  pub cut_full : (x : X) → Contains xs x → low < number x → number x ≤ high → Contains cut x
  cut_full x among above below =
      let k : ℕ = among.0 in
      let there : k < length xs = among.1 in
      let is : number (get_or xs k x) ≡ number x = ap number among.2 in
      let inside : k < upto = ⊎_elim
      (λ (yes : k < upto). yes)
      (λ (no : upto ≤ k). let beyond : high < number (get_or xs k x) = leb-false (number (get_or xs k x)) high (parts.1 k x no there) in absurd (omega arith))
      (cases_lt k upto) in
      let in_front : number (get_or (take upto xs) k x) ≡ number (get_or xs k x) = ap number (get_or-take upto xs k x inside) in
      let from : begun ≤ k = ⊎_elim
      (λ (no : k < begun). let early : number (get_or (take upto xs) k x) ≤ low = leb-true (number (get_or (take upto xs) k x)) low (front_parts.0 k x (omega arith) no) in absurd (omega arith))
      (λ (yes : begun ≤ k). yes)
      (cases_lt k begun) in
      let index : begun + (k - begun) ≡ k = omega arith in
      let value : get_or cut (k - begun) x ≡ x =
      get_or-drop begun (take upto xs) (k - begun) x ∙ ap (λ n. get_or (take upto xs) n x) index ∙ get_or-take upto xs k x inside ∙ among.2 in
      (k - begun, omega (arith, length-drop begun (take upto xs), length-take upto xs), value)

pub AreStoredBetween-cut : (all : List Stored) (low high upto begun : ℕ) → Upto (λ s. s.revision) high all upto → upto ≤ length all → Upto (λ s. s.revision) low (take upto all) begun → begun ≤ length (take upto all)
    → AreStoredBetween all low high (drop begun (take upto all))
AreStoredBetween-cut all low high upto begun parts within front_parts front_within = record {
  only = λ stored among. (
    cut_among (λ (s : Stored). s.revision) all low high upto begun parts within front_parts front_within stored among,
    cut_between (λ (s : Stored). s.revision) all low high upto begun parts within front_parts front_within stored among,
  );
  full = λ stored among above below. cut_full (λ (s : Stored). s.revision) all low high upto begun parts within front_parts front_within stored among above below;
}

-- from those that are stored to those that are known
pub AreVersionsBetween-stored : (histories : BTreeMap ObjectKey (List Stored)) (versions : List RbacVersion) (key : ObjectKey) (low high : ℕ) (all between : List Stored) → AreStored histories versions
    → items_at key_order histories key ≡ all → AreStoredBetween all low high between → AreVersionsBetween versions key low high between
AreVersionsBetween-stored histories versions key low high all between are is cut = record {
  within = λ stored among. (cut.only stored among).1;
  full = λ version among of_key above below.
      let there = subst (λ k. Contains (items_at key_order histories k) (stored_of version)) of_key (are.found version among) in
      cut.full (stored_of version) (subst (λ l. Contains l (stored_of version)) is there) above below;
}

pub AreStoredBetween-nothing : (low high : ℕ) → AreStoredBetween [] low high []
AreStoredBetween-nothing low high = record {
  only = λ stored among. let within = among.1 in absurd (omega arith);
  full = λ stored among above upto. let within = among.1 in absurd (omega arith);
}
