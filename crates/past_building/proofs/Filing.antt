-- The first removals of keys and uids, with one more.
use Rattle.std.proofs.Common.{◌≡◌, ℕ, ◌+◌, ◌<◌, Bool, true, false, ◌&&◌, List, [], ◌∷◌, ◌++◌, length, take, get_or, Option, Some, None, option_and_then, refl, sym, ap, ◌∙◌, subst, ⊎_elim, true≢false}
use Rattle.std.specs.Prelude.{bytes_eq, find, if◌then◌else◌, is_some}
use Rattle.std.specs.BTreeMap as tree
use Rattle.std.specs.HashMap as table
use Rattle.std.specs.Cmp.Lexicographic.{bytes_decides}
use Rattle.std.specs.Ordering.{is_eq}
use Rattle.std.proofs.lemmas.List.{take_more}
use Rattle.std.proofs.lemmas.Bool.{cond-false, cond-true}
use Rattle.std.proofs.lemmas.Map.Text.{is_eq-slice_cmp}
use Rattle.base_types.specs.declared.kubernetes.key.ObjectKey.{ObjectKey}
use Rattle.clouds.specs.Kept.{text_order}
use Rattle.history_model.proofs.KeyLemmas.{key_decides, key_tells}
use Rattle.base_types.specs.Keys.{same_key}
use Rattle.write_groups.specs.declared.event.LogEvent.{LogEvent}
use Rattle.past_building.specs.Keyed.{RemovalNumbers, key_eq}
use Rattle.past_building.specs.Removals.{found_at, or_first, number_if, first_removal, gone_at, is_gone}

abbrev pub Uids : Type 0
Uids = tree.BTreeMap (List ℕ) ℕ

abbrev pub uid_in : Option Uids → List ℕ → Option ℕ
uid_in found uid = option_and_then (λ uids. tree.get text_order uids uid) found

or_none : (found : Option ℕ) → or_first found None ≡ found
or_none None = refl
or_none (Some n) = refl

-- where the key has uids already
pub filed_in : (old new : RemovalNumbers) (key : ObjectKey) (uid : List ℕ) (number : ℕ) (uids new_uids : Uids) → table.get key_eq old key ≡ Some uids → table.Updates key_eq old new key (Some new_uids)
    → tree.get text_order uids uid ≡ None → tree.Updates text_order uids new_uids uid (Some number)
    → (k : ObjectKey) (u : List ℕ) → found_at new k u ≡ or_first (found_at old k u) (number_if key uid number k u)
filed_in old new key uid number uids new_uids has updates absent inner k u = by (same_key key k) refl
  where
    by : (t : Bool) → same_key key k ≡ t → found_at new k u ≡ or_first (found_at old k u) (if t && bytes_eq uid u then Some number else None)
    by false apart =
        ap (λ o. uid_in o u) (updates.0 k ∙ cond-false (key_eq key k) (Some new_uids) (table.get key_eq old k) apart)
        ∙ sym (or_none (found_at old k u))
    by true tied = inside (bytes_eq uid u) refl
      where
        one : key ≡ k
        one = (key_decides key k).0 tied

        now : table.get key_eq new k ≡ Some new_uids
        now = updates.0 k ∙ cond-true (key_eq key k) (Some new_uids) (table.get key_eq old k) tied

        before : table.get key_eq old k ≡ Some uids
        before = subst (λ x. table.get key_eq old x ≡ Some uids) one has

        inside : (s : Bool) → bytes_eq uid u ≡ s → found_at new k u ≡ or_first (found_at old k u) (if true && s then Some number else None)
        inside false other =
            ap (λ o. uid_in o u) now ∙ inner.0 u ∙ cond-false (is_eq (text_order uid u)) (Some number) (tree.get text_order uids u) (is_eq-slice_cmp uid u ∙ other)
            ∙ sym (ap (λ o. uid_in o u) before) ∙ sym (or_none (found_at old k u))
        inside true same =
            ap (λ o. uid_in o u) now ∙ inner.0 u ∙ cond-true (is_eq (text_order uid u)) (Some number) (tree.get text_order uids u) (is_eq-slice_cmp uid u ∙ same)
            ∙ sym (ap (λ o. or_first o (Some number)) (ap (λ o. uid_in o u) before ∙ subst (λ x. tree.get text_order uids x ≡ None) ((bytes_decides uid u).0 same) absent))

-- where the uid has its first removal already
pub filed_before : (old new : RemovalNumbers) (key : ObjectKey) (uid : List ℕ) (number : ℕ) (uids : Uids) → table.get key_eq old key ≡ Some uids → table.Updates key_eq old new key (Some uids)
    → is_some (tree.get text_order uids uid) ≡ true
    → (k : ObjectKey) (u : List ℕ) → found_at new k u ≡ or_first (found_at old k u) (number_if key uid number k u)
filed_before old new key uid number uids has updates there k u = kept ∙ by (same_key key k) refl
  where
    kept : found_at new k u ≡ found_at old k u
    kept = ⊎_elim
        (λ same. ap (λ o. uid_in o u) (updates.0 k ∙ cond-true (key_eq key k) (Some uids) (table.get key_eq old k) same.0
        ∙ sym (subst (λ x. table.get key_eq old x ≡ Some uids) same.1 has)))
        (λ other. ap (λ o. uid_in o u) (updates.0 k ∙ cond-false (key_eq key k) (Some uids) (table.get key_eq old k) other.0))
        (key_tells key k)

    some : (found : Option ℕ) (n : Option ℕ) → is_some found ≡ true → found ≡ or_first found n
    some None n is = absurd (true≢false (sym is))
    some (Some m) n is = refl

    by : (t : Bool) → same_key key k ≡ t → found_at old k u ≡ or_first (found_at old k u) (if t && bytes_eq uid u then Some number else None)
    by false apart = sym (or_none (found_at old k u))
    by true tied = inside (bytes_eq uid u) refl
      where
        inside : (s : Bool) → bytes_eq uid u ≡ s → found_at old k u ≡ or_first (found_at old k u) (if true && s then Some number else None)
        inside false other = sym (or_none (found_at old k u))
        inside true same = some (found_at old k u) (Some number)
            (ap is_some (ap (λ o. uid_in o u) (subst (λ x. table.get key_eq old x ≡ Some uids) ((key_decides key k).0 tied) has))
            ∙ subst (λ x. is_some (tree.get text_order uids x) ≡ true) ((bytes_decides uid u).0 same) there)

-- where the key has no uids yet
pub filed_new : (old new : RemovalNumbers) (key : ObjectKey) (uid : List ℕ) (number : ℕ) (empty made : Uids) → table.get key_eq old key ≡ None → table.Updates key_eq old new key (Some made)
    → ((u : List ℕ) → tree.get text_order empty u ≡ None) → tree.Updates text_order empty made uid (Some number)
    → (k : ObjectKey) (u : List ℕ) → found_at new k u ≡ or_first (found_at old k u) (number_if key uid number k u)
filed_new old new key uid number empty made none updates nothing inner k u = by (same_key key k) refl
  where
    by : (t : Bool) → same_key key k ≡ t → found_at new k u ≡ or_first (found_at old k u) (if t && bytes_eq uid u then Some number else None)
    by false apart =
        ap (λ o. uid_in o u) (updates.0 k ∙ cond-false (key_eq key k) (Some made) (table.get key_eq old k) apart)
        ∙ sym (or_none (found_at old k u))
    by true tied = inside (bytes_eq uid u) refl
      where
        now : table.get key_eq new k ≡ Some made
        now = updates.0 k ∙ cond-true (key_eq key k) (Some made) (table.get key_eq old k) tied

        before : found_at old k u ≡ None
        before = ap (λ o. uid_in o u) (subst (λ x. table.get key_eq old x ≡ None) ((key_decides key k).0 tied) none)

        inside : (s : Bool) → bytes_eq uid u ≡ s → found_at new k u ≡ or_first (found_at old k u) (if true && s then Some number else None)
        inside false other =
            ap (λ o. uid_in o u) now ∙ inner.0 u ∙ cond-false (is_eq (text_order uid u)) (Some number) (tree.get text_order empty u) (is_eq-slice_cmp uid u ∙ other) ∙ nothing u
            ∙ sym (ap (λ o. or_first o None) before)
        inside true same =
            ap (λ o. uid_in o u) now ∙ inner.0 u ∙ cond-true (is_eq (text_order uid u)) (Some number) (tree.get text_order empty u) (is_eq-slice_cmp uid u ∙ same)
            ∙ sym (ap (λ o. or_first o (Some number)) before)

-- the first of a list and one more that passes a test
find_more : (test : ℕ → Bool) (xs : List ℕ) (x : ℕ) → find test (xs ++ x ∷ []) ≡ or_first (find test xs) (if test x then Some x else None)
find_more test [] x = by (test x)
  where
    by : (t : Bool) → (if t then Some x else None) ≡ or_first None (if t then Some x else None)
    by true = refl
    by false = refl
find_more test (y ∷ xs) x = by (test y) (find_more test xs x)
  where
    by : (t : Bool) → find test (xs ++ x ∷ []) ≡ or_first (find test xs) (if test x then Some x else None)
        → (if t then Some y else find test (xs ++ x ∷ [])) ≡ or_first (if t then Some y else find test xs) (if test x then Some x else None)
    by true rest = refl
    by false rest = rest

-- one more event, that removed an object
pub first_with : (events : List LogEvent) (order : List ℕ) (index number d : ℕ) (key k : ObjectKey) (uid u : List ℕ) → index < length order → get_or order index d ≡ number
    → gone_at events number ≡ Some (key, uid)
    → first_removal events (take (index + 1) order) k u ≡ or_first (first_removal events (take index order) k u) (number_if key uid number k u)
first_with events order index number d key k uid u within is gone =
    ap (λ xs. first_removal events xs k u) (take_more order index d within ∙ ap (λ x. take index order ++ x ∷ []) is)
    ∙ find_more (λ n. is_gone k u (gone_at events n)) (take index order) number
    ∙ ap (λ g. or_first (first_removal events (take index order) k u) (if is_gone k u g then Some number else None)) gone

-- one more event, that removed none
pub first_without : (events : List LogEvent) (order : List ℕ) (index number d : ℕ) (k : ObjectKey) (u : List ℕ) → index < length order → get_or order index d ≡ number
    → gone_at events number ≡ None
    → first_removal events (take (index + 1) order) k u ≡ first_removal events (take index order) k u
first_without events order index number d k u within is gone =
    ap (λ xs. first_removal events xs k u) (take_more order index d within ∙ ap (λ x. take index order ++ x ∷ []) is)
    ∙ find_more (λ n. is_gone k u (gone_at events n)) (take index order) number
    ∙ ap (λ g. or_first (first_removal events (take index order) k u) (if is_gone k u g then Some number else None)) gone
    ∙ or_none (first_removal events (take index order) k u)
