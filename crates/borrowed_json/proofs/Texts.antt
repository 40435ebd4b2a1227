-- The text of a value, and that of a number.
use Rattle.std.proofs.Common.{◌≡◌, ◌≢◌, ◌⊎◌, inl, inr, ℕ, ◌<◌, List, [], ◌∷◌, length, drop, get_or, ◌==◌, true, false, IsTrue, refl, arith}
use Rattle.std.proofs.lemmas.Grind.{common_steps}
use Rattle.fast_float.specs.Text.{scan}
use Rattle.json.specs.Lex.{lex, punctuate, tokens}
use Rattle.json.specs.Reads.{opens}
use Rattle.serde_json.specs.Read.{number_of, number_from}

-- the empty text has no token
pub text_behind : (text : List ℕ) → 0 < length (tokens text) → 0 < length text
unfolding lex punctuate
text_behind [] some = some
text_behind (byte ∷ text) some = omega arith

pub text_opened : (text : List ℕ) → IsTrue (opens (tokens text)) → 0 < length text
unfolding lex punctuate
text_opened [] opened = absurd (cc)
text_opened (byte ∷ text) opened = omega arith

pub number-minus : (text : List ℕ) → (get_or text 0 0 == 45) ≡ true → number_of text ≡ number_from true (scan (drop 1 text))
unfolding number_of
number-minus text signed = rw signed

pub number-digits : (text : List ℕ) → (get_or text 0 0 == 45) ≡ false → number_of text ≡ number_from false (scan text)
unfolding number_of
number-digits text unsigned = rw unsigned

-- a text without a minus in front is empty or begins otherwise
pub no_minus : (text : List ℕ) → (length text < 1) ⊎ (get_or text 0 0 ≢ 45) → (get_or text 0 0 == 45) ≡ false
no_minus [] why = refl
no_minus (byte ∷ text) (inl few) = absurd (omega arith)
no_minus (byte ∷ text) (inr other) = grind (arith, common_steps, other)
