-- Each item of a list and each member of an object, seen one after another.
use Rattle.std.proofs.Common.{◌≡◌, ℕ, zero, suc, ◌+◌, ◌<◌, ◌≤◌, ◌^◌, ◌⊎◌, inl, inr, Bool, true, false, IsSome, List, [], ◌∷◌, ◌++◌, length, get_or, take, Option, Some, None, refl, sym, ap, subst, ◌∙◌, arith, add-one, bytes_eq}
use Rattle.std.specs.Prelude.{decimal, option_and_then, if◌then◌else◌}
use Rattle.std.specs.Str.Parse.{digits_value}
use Rattle.std.proofs.Math.Seq.{take-suc}
use Rattle.std.proofs.lemmas.Bool.{false≢true, cases_lt}
use Rattle.std.proofs.lemmas.Fmt.{decimal-digits_value}
use Rattle.std.proofs.lemmas.Slice.Eq.{bytes_eq-Decides}
use Rattle.base_types.proofs.Indices.{own, index_parts}
use Rattle.base_types.specs.Meaning.{Meaning, kids_of, fields_of}
use Rattle.base_types.specs.Parts.{lookup}
use Rattle.base_types.specs.Pointers.{is_index, index_of, kid_at}

-- an index has one spelling
pub index_spelled : (token : List ℕ) (n : ℕ) → index_of token ≡ Some n → n < 2 ^ 64 → token ≡ decimal n
index_spelled token n is small = go (is_index token) refl
  where
    go : (u : Bool) → is_index token ≡ u → token ≡ decimal n
    go true right =
        let some : Some (digits_value 10 token) ≡ Some n = rw right at is in
        let value : digits_value 10 token ≡ n = cc in
        let parts = index_parts token right in
        sym (decimal-digits_value own token parts.0 parts.1 parts.2 (rw value small)) ∙ ap decimal value
    go false other = absurd (let none : None ≡ Some n = rw other at is in cc)

pub items_step : (P : List ℕ → Type 0) (i : ℕ) (token : List ℕ) → token ≡ decimal i → i < 2 ^ 64 → P token
    → ((name : List ℕ) (n : ℕ) → index_of name ≡ Some n → n < i → P name) → (name : List ℕ) (n : ℕ) → index_of name ≡ Some n → n < i + 1 → P name
items_step P i token spelled small here below name n is lt = go (cases_lt n i)
  where
    go : (n < i) ⊎ (i ≤ n) → P name
    go (inl less) = below name n is less
    go (inr le) =
        let same : n ≡ i = omega arith in
        subst P (spelled ∙ ap decimal (sym same) ∙ sym (index_spelled name n is (omega arith))) here

kid_within : (ts : List Meaning) (n : ℕ) → IsSome (kid_at n (kids_of ts)) → n < length ts
kid_within [] n some = absurd (false≢true some)
kid_within (t ∷ ts) zero some = omega arith
kid_within (t ∷ ts) (suc n) some = let lt = kid_within ts n some in omega arith

pub items_end : (P : List ℕ → Type 0) (ts : List Meaning) → ((name : List ℕ) (n : ℕ) → index_of name ≡ Some n → n < length ts → P name)
    → (name : List ℕ) → IsSome (option_and_then (λ n. kid_at n (kids_of ts)) (index_of name)) → P name
items_end P ts all name some = go (index_of name) refl some
  where
    go : (o : Option ℕ) → index_of name ≡ o → IsSome (option_and_then (λ n. kid_at n (kids_of ts)) o) → P name
    go None is some = absurd (false≢true some)
    go (Some n) is some = all name n is (kid_within ts n some)

lookup-snoc : (name : List ℕ) (ms : List (List ℕ × Meaning)) (m : List ℕ × Meaning) → IsSome (lookup name (fields_of (ms ++ (m ∷ [])))) → IsSome (lookup name (fields_of ms)) ⊎ (m.0 ≡ name)
lookup-snoc name [] m some = go (bytes_eq m.0 name) refl some
  where
    go : (u : Bool) → bytes_eq m.0 name ≡ u → IsSome (if u then Some m.1 else None) → IsSome (lookup name (fields_of [])) ⊎ (m.0 ≡ name)
    go true is some = inr ((bytes_eq-Decides m.0 name).0 is)
    go false other some = absurd (false≢true some)
lookup-snoc name (l ∷ ms) m some = go (lookup-snoc name ms m) (bytes_eq l.0 name) some
  where
    go : (IsSome (lookup name (fields_of (ms ++ (m ∷ [])))) → IsSome (lookup name (fields_of ms)) ⊎ (m.0 ≡ name)) → (u : Bool)
        → IsSome (if u then Some l.1 else lookup name (fields_of (ms ++ (m ∷ [])))) → IsSome (if u then Some l.1 else lookup name (fields_of ms)) ⊎ (m.0 ≡ name)
    go rest true some = inl some
    go rest false some = rest some

pub members_step : (P : List ℕ → Type 0) (ms : List (List ℕ × Meaning)) (i : ℕ) (m : List ℕ × Meaning) → i < length ms → m ≡ get_or ms i m → P m.0
    → ((name : List ℕ) → IsSome (lookup name (fields_of (take i ms))) → P name) → (name : List ℕ) → IsSome (lookup name (fields_of (take (i + 1) ms))) → P name
members_step P ms i m lt at here before name some = go (lookup-snoc name (take i ms) m (subst (λ l. IsSome (lookup name (fields_of l))) more some))
  where
    more : take (i + 1) ms ≡ take i ms ++ (m ∷ [])
    more = rw add-one (take-suc ms i m lt ∙ ap (λ x. take i ms ++ (x ∷ [])) (sym at))

    go : IsSome (lookup name (fields_of (take i ms))) ⊎ (m.0 ≡ name) → P name
    go (inl earlier) = before name earlier
    go (inr same) = subst P same here
