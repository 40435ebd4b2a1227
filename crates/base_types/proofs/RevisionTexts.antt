use Rattle.std.proofs.Common.{◌≡◌, ◌≢◌, ℕ, ◌<◌, ◌≤◌, ◌^◌, List, length, get_or, Result, Ok, Option, Some, None, arith, sym, ◌∙◌}
use Rattle.std.specs.Prelude.{decimal, IsUtf8, IfSome, IfNone, IsSome}
use Rattle.std.specs.Str.Parse.{AllDigits, ParsesUnsigned, digits_value}
use Rattle.std.proofs.lemmas.Fmt.{first_decimal, decimal_nonempty, IsAscii-decimal, parse-decimal, decimal-digits_value, digits_decimal, decimal_injective}
use Rattle.std.proofs.lemmas.Str.{IsUtf8-from_ascii}
use Rattle.std.proofs.lemmas.Str.Parse.{numerals_by_value, tells_digits, digit_at, parse_plain, IsNumeralModel}
use Rattle.std.proofs.lemmas.Result.{OkIff-at_ok}
use Rattle.base_types.specs.Revisions.{IsRevision}

own : IsNumeralModel (AllDigits 10) (digits_value 10)
own = numerals_by_value (AllDigits 10) tells_digits

pub below_word : (r : ℕ) → IsRevision r → r < 2 ^ 64
below_word r h = omega arith

pub text_some : (text : List ℕ) (r : ℕ) → IsRevision r → text ≡ decimal r → 0 < length text
text_some text r h e = rw e (decimal_nonempty r (below_word r h))

pub first_above : (text : List ℕ) (r : ℕ) → IsRevision r → text ≡ decimal r → 48 < get_or text 0 0
first_above text r h e = rw e (first_decimal r h.0 (below_word r h))

pub first_below : (text : List ℕ) (r : ℕ) → IsRevision r → text ≡ decimal r → get_or text 0 0 < 58
first_below text r h e =
    let some : 0 < length (decimal r) = decimal_nonempty r (below_word r h) in
    let digit = digit_at (decimal r) 0 (digits_decimal own r (below_word r h)) some in
    rw e (omega (arith, digit))

pub text_utf8 : (text : List ℕ) (r : ℕ) → IsRevision r → text ≡ decimal r → IsUtf8 text
text_utf8 text r h e = rw e (IsUtf8-from_ascii (decimal r) (IsAscii-decimal r (below_word r h)))

pub text_parses : {E : Type 0} (text : List ℕ) (r : ℕ) (result : Result ℕ E) → IsRevision r → text ≡ decimal r → ParsesUnsigned 64 10 text result → result ≡ Ok r
text_parses text r result h e parses = parse-decimal 64 r text result (below_word r h) (below_word r h) e parses

-- a first digit that is not 0, and the parse: the text is the decimal
pub parsed_is : {E : Type 0} (text : List ℕ) (n : ℕ) (result : Result ℕ E) → 0 < length text → 49 ≤ get_or text 0 0 → get_or text 0 0 ≤ 57
    → ParsesUnsigned 64 10 text result → result ≡ Ok n → text ≡ decimal n
parsed_is text n result some low high parses ok =
    let plain : get_or text 0 0 ≢ 43 = omega arith in
    let given = OkIff-at_ok result _ _ n (parse_plain own 64 text result parses plain) ok in
    let back : decimal (digits_value 10 text) ≡ text = decimal-digits_value own text given.0.0 some (λ z. absurd (omega arith)) given.0.2 in
    rw given.1 (sym back)

pub found_is : (text : List ℕ) (n : ℕ) (found : Option ℕ) → IfSome found (λ r. r ≡ n) → text ≡ decimal n → IfSome found (λ r. text ≡ decimal r)
found_is text n None h e = tt
found_is text n (Some r) h e = rw h e

-- where the number that was read is no revision, the text is that of none
pub none_is : (text : List ℕ) (n : ℕ) (found : Option ℕ) → (IsRevision n → IsSome found) → n < 2 ^ 64 → text ≡ decimal n
    → IfNone found ((r : ℕ) → IsRevision r → text ≢ decimal r)
none_is text n None h small e = λ r is other.
    let same : r ≡ n = decimal_injective r n (below_word r is) small (sym other ∙ e) in
    let some : IsSome {T = ℕ} None = h (rw (sym same) is) in
    cc
none_is text n (Some r) h small e = tt

pub parsed_small : {E : Type 0} (text : List ℕ) (n : ℕ) (result : Result ℕ E) → ParsesUnsigned 64 10 text result → result ≡ Ok n → n < 2 ^ 64
parsed_small text n result parses ok =
    let given = OkIff-at_ok result _ _ n parses ok in
    rw given.1 given.0.1
