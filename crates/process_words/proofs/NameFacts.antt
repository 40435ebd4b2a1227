-- Names that are looked at one after another: which are equal.
use Rattle.std.proofs.Common.{◌≡◌, ℕ, zero, suc, ◌+◌, ◌<◌, List, [], ◌∷◌, length, map, drop, get_or, Bool, true, false, cond, not, ◌||◌, bytes_eq, if◌then◌else◌, Bor, BTreeSet, nat_cmp, is_eq, refl, sym, ◌∙◌, ap}
use Rattle.std.specs.BTreeSet.{Updates, contains_by}
use Rattle.std.specs.Cmp.Lexicographic.{slice_cmp}
use Rattle.std.specs.List.{list_any}
use Rattle.std.proofs.lemmas.Cmp.{nat_list_eq_equiv}
use Rattle.std.proofs.lemmas.List.{at_drop_more}
use Rattle.std.proofs.lemmas.Map.Text.{is_eq-slice_cmp}
use Rattle.process_words.specs.Names.{are_distinct}

-- the item at a place, in front of those behind it
pub item_in_front : {A B : Type 0} (f : A → B) (xs : List A) (at : ℕ) (item : A) (shown : B) → at < length xs → item ≡ get_or xs at item → f item ≡ shown
    → map f (drop at xs) ≡ shown ∷ map f (drop (at + 1) xs)
item_in_front f xs at item shown within is shows =
    at_drop_more (map f) xs at item within
    ∙ ap (λ x. f x ∷ map f (drop (at + 1) xs)) (sym is)
    ∙ ap (λ y. y ∷ map f (drop (at + 1) xs)) shows

pub list_any-map : {A B : Type 0} (test : B → Bool) (f : A → B) (xs : List A) → list_any test (map f xs) ≡ list_any (λ x. test (f x)) xs
list_any-map test f [] = refl
list_any-map test f (x ∷ xs) = ap (λ any. test (f x) || any) (list_any-map test f xs)

-- whether a name is among those behind it decides, where those differ
pub distinct_by : (name : List ℕ) (names : List (List ℕ)) (among : Bool) → list_any (bytes_eq name) names ≡ among → are_distinct (name ∷ names) ≡ (if among then false else are_distinct names)
distinct_by name names among is = ap (λ b. if b then false else are_distinct names) is

not_distinct : (among rest : Bool) → rest ≡ false → (if among then false else rest) ≡ false
not_distinct true rest is = refl
not_distinct false rest is = is

-- where some behind are equal, some of all are
pub equal_behind : {A : Type 0} (f : A → List ℕ) (at : ℕ) (xs : List A) → are_distinct (map f (drop at xs)) ≡ false → are_distinct (map f xs) ≡ false
equal_behind f zero xs is = is
equal_behind f (suc at) [] is = is
equal_behind f (suc at) (x ∷ xs) is = not_distinct (list_any (bytes_eq (f x)) (map f xs)) (are_distinct (map f xs)) (equal_behind f at xs is)

-- the set holds these names, which are distinct
pub record AreHeld (set : BTreeSet (Bor (List ℕ))) (names : List (List ℕ)) : Type 0 where
  pub differ : are_distinct names ≡ true
  pub holds : (name : List ℕ) → contains_by (λ (key : Bor (List ℕ)). slice_cmp nat_cmp name key.now) set ≡ list_any (bytes_eq name) names

pub none_held : (set : BTreeSet (Bor (List ℕ))) → set.keys ≡ [] → AreHeld set []
none_held set empty = record {
  differ = refl;
  holds = λ name. ap (list_any (λ (key : Bor (List ℕ)). is_eq (slice_cmp nat_cmp name key.now))) empty;
}

or_is : (a b : Bool) → cond a true b ≡ (a || b)
or_is true b = refl
or_is false b = refl

is_absent : (present added : Bool) → added ≡ not present → added ≡ true → present ≡ false
is_absent true added is said = absurd (let both : true ≡ false = sym said ∙ is in cc)
is_absent false added is said = refl

is_present : (present added : Bool) → added ≡ not present → added ≡ false → present ≡ true
is_present true added is said = refl
is_present false added is said = absurd (let both : false ≡ true = sym said ∙ is in cc)

-- a name that the set doesn't take is one of those behind it
pub held_twice : (old : BTreeSet (Bor (List ℕ))) (key : Bor (List ℕ)) (names : List (List ℕ)) (added : Bool) → AreHeld old names
    → added ≡ not (contains_by (λ (other : Bor (List ℕ)). slice_cmp nat_cmp key.now other.now) old) → added ≡ false → are_distinct (key.now ∷ names) ≡ false
held_twice old key names added held is said = distinct_by key.now names true (sym (held.holds key.now) ∙ is_present _ added is said)

-- one name more
pub one_held : (old new : BTreeSet (Bor (List ℕ))) (key : Bor (List ℕ)) (names : List (List ℕ)) (added : Bool) → AreHeld old names
    → added ≡ not (contains_by (λ (other : Bor (List ℕ)). slice_cmp nat_cmp key.now other.now) old) → added ≡ true
    → Updates (λ (x y : Bor (List ℕ)). slice_cmp nat_cmp x.now y.now) old new key true → AreHeld new (key.now ∷ names)
one_held old new key names added held is said updates = record {
  differ = distinct_by key.now names false (sym (held.holds key.now) ∙ is_absent _ added is said) ∙ held.differ;
  holds = λ name.
      let query : Bor (List ℕ) = record { ref_ptr = (0, 0); now = name } in
      updates.0 query
      ∙ ap (λ same. cond same true (contains_by (λ (other : Bor (List ℕ)). slice_cmp nat_cmp name other.now) old)) (is_eq-slice_cmp key.now name ∙ nat_list_eq_equiv.symm key.now name)
      ∙ ap (cond (bytes_eq name key.now) true) (held.holds name)
      ∙ or_is (bytes_eq name key.now) (list_any (bytes_eq name) names);
}
