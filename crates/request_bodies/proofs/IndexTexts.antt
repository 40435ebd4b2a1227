-- An array index has one text, however large it is.
use Rattle.std.proofs.Common.{◌≡◌, ℕ, zero, suc, ◌+◌, ◌*◌, ◌/◌, ◌%◌, ◌<◌, ◌≤◌, ◌==◌, Bool, true, false, List, [], ◌∷◌, ◌++◌, length, get_or, map, Some, None, refl, sym, ap, ◌∙◌, arith}
use Rattle.std.specs.Char.{digit_value}
use Rattle.std.specs.Int.Digits.{digits_of}
use Rattle.std.specs.Str.Parse.{AllDigits, digits_value, digits_value_after}
use Rattle.std.proofs.lemmas.Bool.{eqb-true}
use Rattle.std.proofs.lemmas.Int.Digits.{digits_of_step}
use Rattle.std.proofs.lemmas.List.{map-append, append-nil, append_assoc}
use Rattle.std.proofs.lemmas.Str.{digit_value_digit}
use Rattle.std.proofs.lemmas.Str.Parse.{digit_from_value}
use Rattle.base_types.proofs.Indices.{own, index_parts}
use Rattle.base_types.specs.Pointers.{is_index, index_of}
use Rattle.request_bodies.specs.Agreeing.{index_text}

abbrev digits_text : ℕ → List ℕ
digits_text n = map (λ digit. 48 + digit) (digits_of 10 n)

text_above_zero : (n : ℕ) → 0 < n → index_text n ≡ digits_text n
text_above_zero n some = go (n == 0) refl
  where
    go : (u : Bool) → (n == 0) ≡ u → index_text n ≡ digits_text n
    go true none = absurd (let none' = eqb-true n 0 none in omega arith)
    go false other = rw other refl

digits_step : (n : ℕ) → 0 < n → digits_text n ≡ digits_text (n / 10) ++ ((48 + n % 10) ∷ [])
digits_step n some = ap (map (λ digit. 48 + digit)) (digits_of_step 10 n (omega arith) some) ∙ map-append (λ digit. 48 + digit) (digits_of 10 (n / 10)) (n % 10 ∷ [])

text_step : (n : ℕ) → 10 ≤ n → index_text n ≡ index_text (n / 10) ++ ((48 + n % 10) ∷ [])
text_step n large =
    text_above_zero n (omega arith) ∙ digits_step n (omega arith) ∙ ap (λ text. text ++ ((48 + n % 10) ∷ [])) (sym (text_above_zero (n / 10) (omega arith)))

digit_above_zero : (n : ℕ) → 0 < n → n < 10 → index_text n ≡ (48 + n) ∷ []
digit_above_zero n some small =
    let front : n / 10 ≡ 0 = omega arith in
    let end : n % 10 ≡ n = omega arith in
    text_above_zero n some ∙ digits_step n some ∙ (λ i. digits_text (front i) ++ ((48 + end i) ∷ []))

text_digit : (n : ℕ) → n < 10 → index_text n ≡ (48 + n) ∷ []
text_digit zero small = refl
text_digit (suc n) small = digit_above_zero (suc n) (omega arith) small

text_after : (n : ℕ) (ds : List ℕ) → 0 < n → AllDigits 10 ds → index_text (digits_value_after 10 n ds) ≡ index_text n ++ ds
text_after n [] some digits = sym (append-nil (index_text n))
text_after n (c ∷ cs) some digits =
    let m : ℕ = n * 10 + digit_value c in
    let k = digit_value_digit c (digit_from_value c digits.0) in
    let front : m / 10 ≡ n = omega (arith, digits.0) in
    let end : 48 + m % 10 ≡ c = omega (arith, digits.0) in
    text_after m cs (omega arith) digits.1
    ∙ ap (λ text. text ++ cs) (text_step m (omega arith) ∙ (λ i. index_text (front i) ++ (end i ∷ [])))
    ∙ append_assoc (index_text n) (c ∷ []) cs

-- digits without a zero before them are the text of their number
text_of_value : (ds : List ℕ) → AllDigits 10 ds → 0 < length ds → (get_or ds 0 0 ≡ 48 → length ds ≡ 1) → index_text (digits_value 10 ds) ≡ ds
text_of_value [] digits some lead = absurd (omega arith)
text_of_value (c ∷ []) digits some lead =
    let k = digit_value_digit c (digit_from_value c digits.0) in
    text_digit (0 * 10 + digit_value c) (omega (arith, digits.0)) ∙ ap (λ d. d ∷ []) (omega arith)
text_of_value (c ∷ e ∷ cs) digits some lead =
    let k = digit_value_digit c (digit_from_value c digits.0) in
    let other : c ≡ 48 → ⊥ = λ z. omega (arith, lead z) in
    let is : 48 + (0 * 10 + digit_value c) ≡ c = omega arith in
    text_after (0 * 10 + digit_value c) (e ∷ cs) (omega arith) digits.1
    ∙ ap (λ text. text ++ (e ∷ cs)) (text_digit (0 * 10 + digit_value c) (omega (arith, digits.0)) ∙ ap (λ d. d ∷ []) is)

pub index_spelled : (token : List ℕ) (n : ℕ) → index_of token ≡ Some n → token ≡ index_text n
index_spelled token n is = go (is_index token) refl
  where
    go : (u : Bool) → is_index token ≡ u → token ≡ index_text n
    go true right =
        let some : Some (digits_value 10 token) ≡ Some n = rw right at is in
        let value : digits_value 10 token ≡ n = cc in
        let parts = index_parts token right in
        sym (text_of_value token (own.to token parts.0) parts.1 parts.2) ∙ ap index_text value
    go false other = absurd (let none : None ≡ Some n = rw other at is in cc)
