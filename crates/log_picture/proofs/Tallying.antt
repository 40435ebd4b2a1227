-- Versions that are counted under their keys, one after another.
use Rattle.std.proofs.Common.{◌≡◌, ◌≢◌, ℕ, ◌+◌, ◌<◌, ◌≤◌, ◌^◌, ◌⊎◌, ⊎_elim, inl, inr, Bool, true, false, List, [], ◌∷◌, ◌++◌, length, filter, Option, Some, None, refl, sym, ◌∙◌, subst, ap, ap₂, arith}
use Rattle.std.specs.BTreeMap.{BTreeMap, Updates, get}
use Rattle.std.specs.Ordering.{is_eq}
use Rattle.std.specs.Prelude.{IfSome}
use Rattle.std.proofs.lemmas.Bool.{cases_Bool, cond-false, cond-true}
use Rattle.std.proofs.lemmas.List.Elements.{filter-append}
use Rattle.std.proofs.lemmas.List.Sums.{fold-append}
use Rattle.base_types.specs.Keys.{same_key}
use Rattle.base_types.specs.declared.kubernetes.key.ObjectKey.{ObjectKey}
use Rattle.clouds.proofs.Adding.{same_key_from}
use Rattle.clouds.specs.Kept.{key_order}
use Rattle.history_model.proofs.KeyLemmas.{key_tells}
use Rattle.log_picture.specs.Changes.{is_change_of, is_recorded, later_revision, tally, tally_of}
use Rattle.log_picture.specs.Tallied.{AreFew, AreTallied, CountsOne, one, one_more}
use Rattle.log_picture.specs.declared.tallies.Tally.{Tally}
use Rattle.object_past.specs.declared.version.Version.{Version}

-- a version more in a tally
abbrev pub grown : Option Tally → ℕ → Tally
grown None revision = one revision
grown (Some t) revision = one_more t revision

append_nothing : {X : Type 0} (xs : List X) → xs ++ [] ≡ xs
append_nothing [] = refl
append_nothing (x ∷ xs) = ap (λ l. x ∷ l) (append_nothing xs)

longer_by_one : {X : Type 0} (xs : List X) (x : X) → length (xs ++ x ∷ []) ≡ length xs + 1
longer_by_one [] x = refl
longer_by_one (y ∷ ys) x = let rest = longer_by_one ys x in omega (arith, rest)

abbrev tally_with : ℕ → ℕ → ℕ → Option Tally
tally_with first count last = Some (record { count = count; first = first; last = last })

tally_of_more : (ws : List Version) (v : Version) → tally_of (ws ++ v ∷ []) ≡ Some (grown (tally_of ws) v.revision)
tally_of_more [] v = refl
tally_of_more (w ∷ ws) v = ap₂ (tally_with w.revision) (longer_by_one (w ∷ ws) v) (fold-append later_revision w.revision ws (v ∷ []))

filter_last : (p : Version → Bool) (xs : List Version) (v : Version) → p v ≡ true → filter p (xs ++ v ∷ []) ≡ filter p xs ++ v ∷ []
filter_last p xs v e = filter-append p xs (v ∷ []) ∙ ap (λ l. filter p xs ++ l) (cond-true (p v) (v ∷ []) [] e)

filter_skips : (p : Version → Bool) (xs : List Version) (v : Version) → p v ≡ false → filter p (xs ++ v ∷ []) ≡ filter p xs
filter_skips p xs v e = filter-append p xs (v ∷ []) ∙ ap (λ l. filter p xs ++ l) (cond-false (p v) (v ∷ []) [] e) ∙ append_nothing (filter p xs)

changes : (key : ObjectKey) (v : Version) → is_recorded v.maker ≡ true → same_key v.key key ≡ true → is_change_of key v ≡ true
changes key v recorded same = rw (recorded, same) refl

changes_another : (key : ObjectKey) (v : Version) → is_recorded v.maker ≡ true → same_key v.key key ≡ false → is_change_of key v ≡ false
changes_another key v recorded other = rw (recorded, other) refl

changes_none : (key : ObjectKey) (v : Version) → is_recorded v.maker ≡ false → is_change_of key v ≡ false
changes_none key v unrecorded = rw unrecorded refl

-- a version that no recorded write made
pub counts_none : (v : Version) (tallies : BTreeMap ObjectKey Tally) → is_recorded v.maker ≡ false → CountsOne v tallies tallies
counts_none v tallies unrecorded = λ before are key. are key ∙ sym (ap tally_of (filter_skips (is_change_of key) before v (changes_none key v unrecorded)))

-- one that a recorded write made
pub counts_updates : (v : Version) (old new : BTreeMap ObjectKey Tally) (t : Tally) → is_recorded v.maker ≡ true → Updates key_order old new v.key (Some t)
    → t ≡ grown (get key_order old v.key) v.revision → CountsOne v old new
counts_updates v old new t recorded updates is = λ before are key. go before are key (key_tells v.key key)
  where
    kept : (key : ObjectKey) → v.key ≢ key → get key_order new key ≡ get key_order old key
    kept key differs = ⊎_elim
        (λ tied. absurd (differs (same_key_from v.key key tied)))
        (λ untied. updates.0 key ∙ cond-false (is_eq (key_order v.key key)) (Some t) (get key_order old key) untied)
        (cases_Bool (is_eq (key_order v.key key)))

    go : (before : List Version) → AreTallied before old → (key : ObjectKey) → ((same_key v.key key ≡ true) × (v.key ≡ key)) ⊎ ((same_key v.key key ≡ false) × (v.key ≢ key))
        → get key_order new key ≡ tally (before ++ v ∷ []) key
    go before are key (inl (same, e)) =
        subst (λ k. get key_order new k ≡ Some (grown (tally before k) v.revision)) e
        (updates.1 ∙ ap Some (is ∙ ap (λ o. grown o v.revision) (are v.key)))
        ∙ sym (ap tally_of (filter_last (is_change_of key) before v (changes key v recorded same)) ∙ tally_of_more (filter (is_change_of key) before) v)
    go before are key (inr (other, differs)) =
        kept key differs ∙ are key ∙ sym (ap tally_of (filter_skips (is_change_of key) before v (changes_another key v recorded other)))

shorter : (p : Version → Bool) (xs : List Version) → length (filter p xs) ≤ length xs
shorter p [] = omega arith
shorter p (x ∷ xs) = go (p x) refl (shorter p xs)
  where
    go : (b : Bool) → p x ≡ b → length (filter p xs) ≤ length xs → length (filter p (x ∷ xs)) ≤ length (x ∷ xs)
    go true e rest = rw e (omega (arith, rest))
    go false e rest = rw e (omega (arith, rest))

few_of : (ws : List Version) → length ws < 2 ^ 63 → IfSome (tally_of ws) (λ t. t.count < 2 ^ 63)
few_of [] l = tt
few_of (w ∷ ws) l = l

-- no count is greater than the number of versions
pub few_so_far : (xs : List Version) (tallies : BTreeMap ObjectKey Tally) → AreTallied xs tallies → length xs < 2 ^ 63 → AreFew tallies
few_so_far xs tallies are l = λ key. subst (λ o. IfSome o (λ (t : Tally). t.count < 2 ^ 63)) (sym (are key))
    (few_of (filter (is_change_of key) xs) (let s = shorter (is_change_of key) xs in omega (arith, l, s)))
