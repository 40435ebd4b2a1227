-- A number of one digit is that digit.
use Rattle.std.proofs.Common.{◌≡◌, ℕ, ◌+◌, ◌/◌, ◌%◌, ◌<◌, [], ◌∷◌, ◌++◌, ap, ◌∙◌, arith}
use Rattle.std.specs.Prelude.{decimal}
use Rattle.std.proofs.lemmas.Fmt.{decimal_digit}
use Rattle.case_maker.specs.Event.{digit, two_digits, three_digits}

one_digit : (n d : ℕ) → d ≡ n % 10 → decimal d ≡ digit n ∷ []
one_digit n d is = decimal_digit d (omega arith) ∙ ap (λ x. (48 + x) ∷ []) is

pub both_digits : (n : ℕ) → n < 100 → decimal (n / 10) ++ decimal (n % 10) ≡ two_digits n
both_digits n small = rw (one_digit (n / 10) (n / 10) (omega arith), one_digit n (n % 10) (omega arith))

pub all_digits : (n : ℕ) → n < 1000 → decimal (n / 100) ++ (decimal (n / 10 % 10) ++ decimal (n % 10)) ≡ three_digits n
all_digits n small = rw (one_digit (n / 100) (n / 100) (omega arith), one_digit (n / 10) (n / 10 % 10) (omega arith), one_digit n (n % 10) (omega arith))
