-- A number's one spelling: what it begins with, what parsing it gives, and that no other text is it.
use Rattle.std.proofs.Common.{◌≡◌, ◌≢◌, ℕ, ◌≤◌, List, ◌++◌, ◌∷◌, zero, suc, ap, length, get_or, Result, Ok, Err, refl, arith, sym, ◌∙◌}
use Rattle.std.specs.Prelude.{decimal, IfSome, IfNone, All}
use Rattle.std.specs.Result.{result_ok}
use Rattle.std.specs.Str.Parse.{AllDigits, ParsesUnsigned, digits_value}
use Rattle.std.proofs.lemmas.Fmt.{first_decimal, decimal_nonempty, decimal_digit, parse-decimal, decimal-digits_value, digits_decimal, decimal_injective}
use Rattle.std.proofs.lemmas.Str.Parse.{numerals_by_value, tells_digits, digit_at, parse_plain, IsNumeralModel}
use Rattle.std.proofs.lemmas.List.Elements.{All-from_get_or, All-weaker}
use Rattle.verdict_text.specs.Words.{IsNumber, BeginsPlainly, Lacks}
use Rattle.verdict_text.proofs.CutFacts.{first_cut}

own : IsNumeralModel (AllDigits 10) (digits_value 10)
own = numerals_by_value (AllDigits 10) tells_digits

-- each byte of a number is a digit
pub record IsDigit (byte : ℕ) : Type 0 where
  pub above : 48 ≤ byte
  pub below : byte ≤ 57

pub digits-decimal : (n : ℕ) → IsNumber n → All IsDigit (decimal n)
digits-decimal n small = All-from_get_or IsDigit (decimal n) 0 (λ i within.
    let digit = digit_at (decimal n) i (digits_decimal own n small) within in
    record { above = omega (arith, digit); below = omega (arith, digit) })

zero_alone : (n : ℕ) → IsNumber n → get_or (decimal n) 0 0 ≡ 48 → length (decimal n) ≡ 1
zero_alone zero small first = ap length (decimal_digit 0 (omega arith))
zero_alone (suc n) small first = absurd (omega (arith, first_decimal (suc n) (omega arith) small))

pub begins-decimal : (n : ℕ) → IsNumber n → BeginsPlainly (decimal n)
begins-decimal n small =
    let some = decimal_nonempty n small in
    let digit = digit_at (decimal n) 0 (digits_decimal own n small) some in
    record {
      some = some;
      above = omega (arith, digit);
      below = omega (arith, digit);
      alone = zero_alone n small;
    }

pub parsed_plainly : {E : Type 0} (word : List ℕ) (result : Result ℕ E) → BeginsPlainly word → ParsesUnsigned 64 10 word result → IfSome (result_ok result) (λ n. word ≡ decimal n)
parsed_plainly word (Err e) plain parses = tt
parsed_plainly {E} word (Ok n) plain parses =
    let unsigned : get_or word 0 0 ≢ 43 = omega (arith, plain.above) in
    let given = parse_plain own {E = E} 64 word (Ok n) parses unsigned in
    let back : decimal (digits_value 10 word) ≡ word = decimal-digits_value own word given.0.0 plain.some plain.alone given.0.2 in
    rw given.1 (sym back)

pub not_parsed : {E : Type 0} (word : List ℕ) (result : Result ℕ E) → ParsesUnsigned 64 10 word result → IfNone (result_ok result) ((n : ℕ) → IsNumber n → word ≢ decimal n)
not_parsed word (Ok n) parses = tt
not_parsed word (Err e) parses = λ n small same. let ok = parse-decimal 64 n word (Err e) small small same parses in cc

pub lacks-decimal : (c n : ℕ) → IsNumber n → (IsDigit c → ⊥) → Lacks c (decimal n)
lacks-decimal c n small other = All-weaker IsDigit (λ byte. byte ≢ c) (λ byte digit same. other (rw same at digit)) (decimal n) (digits-decimal n small)

-- a number with a space behind it is cut there
pub number_cut : (text word rest : List ℕ) (n : ℕ) (r : List ℕ) → text ≡ word ++ 32 ∷ rest → Lacks 32 word → IsNumber n → text ≡ decimal n ++ 32 ∷ r → (word ≡ decimal n) × (rest ≡ r)
number_cut text word rest n r joined whole small e =
    first_cut 32 word (decimal n) rest r whole (lacks-decimal 32 n small (λ digit. omega (arith, digit.above))) (sym joined ∙ e)

-- two numbers with a space behind each
pub numbers_agree : (m n : ℕ) (r s : List ℕ) → IsNumber m → IsNumber n → decimal m ++ 32 ∷ r ≡ decimal n ++ 32 ∷ s → (m ≡ n) × (r ≡ s)
numbers_agree m n r s m_small n_small e =
    let parts = number_cut (decimal m ++ 32 ∷ r) (decimal m) r n s refl (lacks-decimal 32 m m_small (λ digit. omega (arith, digit.above))) n_small e in
    (decimal_injective m n m_small n_small parts.0, parts.1)
