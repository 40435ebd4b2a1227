-- Array indices.
use Rattle.std.proofs.Common.{◌≡◌, ℕ, zero, suc, ◌<◌, ◌≤◌, ◌^◌, ◌==◌, Bool, true, false, List, [], ◌∷◌, length, get_or, Option, Some, None, IfSome, IfNone, option_and_then, Result, Ok, Err, refl, sym, ap, subst, ◌∙◌, ◌⊎◌, inl, inr, arith, rules}
use Rattle.std.specs.Result.{result_ok, OkIff}
use Rattle.std.specs.Str.Parse.{ParsesUnsigned, digits_value}
use Rattle.std.specs.List.{slice_get, list_all}
use Rattle.std.specs.Char.{is_ascii_digit}
use Rattle.std.specs.Prelude.{if◌then◌else◌}
use Rattle.std.proofs.lemmas.Bool.{false≢true, eqb-true, eq-eqb, cases_lt}
use Rattle.std.proofs.lemmas.Option.{slice_get_past, slice_get-get_or}
use Rattle.std.proofs.lemmas.Str.Parse.{IsNumeralModel, numerals_by_value, parse_digits}
use Rattle.base_types.specs.Meaning.{Meaning, kids_of}
use Rattle.base_types.specs.Pointers.{is_index, index_of, kid_at}

-- digits are those of ASCII
pub own : IsNumeralModel (λ ds. list_all is_ascii_digit ds ≡ true) (digits_value 10)
own = numerals_by_value (λ ds. list_all is_ascii_digit ds ≡ true) (search rules)

zero_alone : (b : ℕ) (bs : List ℕ) → b ≡ 48 → length bs ≡ 0 → b ∷ bs ≡ 48 ∷ []
zero_alone b [] is none = ap (λ c. c ∷ []) is
zero_alone b (c ∷ bs) is none = absurd (omega (arith, none))

-- digits, at least one, and of several the first isn't 0
pub index_parts : (token : List ℕ) → is_index token ≡ true → (list_all is_ascii_digit token ≡ true) × (0 < length token) × (get_or token 0 0 ≡ 48 → length token ≡ 1)
index_parts [] is = absurd (false≢true is)
index_parts (b ∷ bs) is = (digits (b == 48) refl is, omega arith, λ first. alone first)
  where
    digits : (u : Bool) → (b == 48) ≡ u → (if u then length bs == 0 else list_all is_ascii_digit (b ∷ bs)) ≡ true → list_all is_ascii_digit (b ∷ bs) ≡ true
    digits false other h = h
    digits true zero_is h = subst (λ ds. list_all is_ascii_digit ds ≡ true) (sym (zero_alone b bs (eqb-true b 48 zero_is) (eqb-true (length bs) 0 h))) refl

    alone : b ≡ 48 → length (b ∷ bs) ≡ 1
    alone first =
        let yes : (b == 48) ≡ true = eq-eqb b 48 first in
        let h : (length bs == 0) ≡ true = rw yes at is in
        let none = eqb-true (length bs) 0 h in omega arith

pub index_read : (E : Type 0) (token : List ℕ) (r : Result ℕ E) (o : Option ℕ) → o ≡ result_ok r → ParsesUnsigned 64 10 token r → is_index token ≡ true → IfSome o (λ n. index_of token ≡ Some n)
index_read E token r o e parsed is = subst (λ x. IfSome x (λ n. index_of token ≡ Some n)) (sym e) (go r (parse_digits own 64 token r parsed (index_parts token is).0))
  where
    go : (r : Result ℕ E) → OkIff r ((0 < length token) × (digits_value 10 token < 2 ^ 64)) (digits_value 10 token) → IfSome (result_ok r) (λ n. index_of token ≡ Some n)
    go (Err x) h = tt
    go (Ok n) h = rw is (ap Some (sym h.1))

pub index_past : (E : Type 0) (token : List ℕ) (r : Result ℕ E) (o : Option ℕ) → o ≡ result_ok r → ParsesUnsigned 64 10 token r → is_index token ≡ true → IfNone o ((n : ℕ) → index_of token ≡ Some n → 2 ^ 64 ≤ n)
index_past E token r o e parsed is = subst (λ x. IfNone x ((n : ℕ) → index_of token ≡ Some n → 2 ^ 64 ≤ n)) (sym e) (go r (parse_digits own 64 token r parsed (index_parts token is).0))
  where
    at : (n : ℕ) → index_of token ≡ Some n → ((0 < length token) × (digits_value 10 token < 2 ^ 64) → ⊥) → (digits_value 10 token < 2 ^ 64) ⊎ (2 ^ 64 ≤ digits_value 10 token) → 2 ^ 64 ≤ n
    at n is_n h (inl lt) = absurd (h ((index_parts token is).1, lt))
    at n is_n h (inr le) =
        let whole : Some (digits_value 10 token) ≡ Some n = rw is at is_n in
        let same : digits_value 10 token ≡ n = cc in
        subst (λ m. 2 ^ 64 ≤ m) same le

    go : (r : Result ℕ E) → OkIff r ((0 < length token) × (digits_value 10 token < 2 ^ 64)) (digits_value 10 token) → IfNone (result_ok r) ((n : ℕ) → index_of token ≡ Some n → 2 ^ 64 ≤ n)
    go (Ok n) h = tt
    go (Err x) h = λ n is_n. at n is_n h (cases_lt (digits_value 10 token) (2 ^ 64))

pub kid_at-kids_of : (ts : List Meaning) (n : ℕ) → kid_at n (kids_of ts) ≡ slice_get ts n
kid_at-kids_of [] n = refl
kid_at-kids_of (t ∷ ts) zero = refl
kid_at-kids_of (t ∷ ts) (suc n) = kid_at-kids_of ts n

pub kid_past : (ts : List Meaning) (o : Option ℕ) → ((n : ℕ) → o ≡ Some n → length ts ≤ n) → option_and_then (λ n. kid_at n (kids_of ts)) o ≡ None
kid_past ts None past = refl
kid_past ts (Some n) past = kid_at-kids_of ts n ∙ slice_get_past ts n (past n refl)

pub item_past : (ts : List Meaning) (n : ℕ) (o : Option ℕ) → o ≡ Some n → length ts ≤ n → option_and_then (λ n. kid_at n (kids_of ts)) o ≡ None
item_past ts n o is past = ap (option_and_then (λ n. kid_at n (kids_of ts))) is ∙ kid_at-kids_of ts n ∙ slice_get_past ts n past

pub item_read : (ts : List Meaning) (n : ℕ) (o : Option ℕ) (t : Meaning) → o ≡ Some n → n < length ts → t ≡ get_or ts n t → Some t ≡ option_and_then (λ n. kid_at n (kids_of ts)) o
item_read ts n o t is within read =
    sym (ap (option_and_then (λ n. kid_at n (kids_of ts))) is ∙ kid_at-kids_of ts n ∙ slice_get-get_or ts n t within ∙ ap Some (sym read))
