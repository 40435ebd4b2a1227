-- A text has at most one token a byte, and one more.
use Rattle.std.proofs.Common.{ℕ, suc, ◌≤◌, List, [], ◌∷◌, length, Bool, true, false, arith}
use Rattle.json.specs.Token.{Token, begin_object, end_object, begin_array, end_array, key, string, number, boolean, null, bad}
use Rattle.json.specs.Lex.{Lexeme, token, comma, colon, Class, quote, backslash, operator, space, other, class, Mode, between, in_word, in_string, in_escape, lex_byte, lex, Place, fresh, after_value, after_comma, after_key, begins_colon, may_begin, may_close, if_allowed, place_token, punctuate, tokens}

-- a byte is at most one lexeme
lex_byte_size : (m : Mode) (c : Class) (x : ℕ) (xs : List ℕ) (k : Mode → List Lexeme) → ((next : Mode) → length (k next) ≤ length xs) → length (lex_byte m c x xs k) ≤ suc (length xs)
lex_byte_size between quote x xs k rest = let r = rest in_string in omega arith
lex_byte_size between backslash x xs k rest = let r = rest in_word in omega arith
lex_byte_size between operator x xs k rest = let r = rest between in omega arith
lex_byte_size between space x xs k rest = let r = rest between in omega arith
lex_byte_size between other x xs k rest = let r = rest in_word in omega arith
lex_byte_size in_word quote x xs k rest = let r = rest in_word in omega arith
lex_byte_size in_word backslash x xs k rest = let r = rest in_word in omega arith
lex_byte_size in_word operator x xs k rest = let r = rest between in omega arith
lex_byte_size in_word space x xs k rest = let r = rest between in omega arith
lex_byte_size in_word other x xs k rest = let r = rest in_word in omega arith
lex_byte_size in_string quote x xs k rest = let r = rest between in omega arith
lex_byte_size in_string backslash x xs k rest = let r = rest in_escape in omega arith
lex_byte_size in_string operator x xs k rest = let r = rest in_string in omega arith
lex_byte_size in_string space x xs k rest = let r = rest in_string in omega arith
lex_byte_size in_string other x xs k rest = let r = rest in_string in omega arith
lex_byte_size in_escape c x xs k rest = let r = rest in_string in omega arith

lex_size : (m : Mode) (xs : List ℕ) → length (lex m xs) ≤ length xs
unfolding lex
lex_size m [] = omega arith
lex_size m (x ∷ xs) = lex_byte_size m (class x) x xs (λ next. lex next xs) (λ next. lex_size next xs)

allowed_size : (b : Bool) (t : Token) (k : Place → List Token) (next : Place) (n : ℕ) → length (k next) ≤ n → length (if_allowed b t k next) ≤ suc n
allowed_size true t k next n rest = omega arith
allowed_size false t k next n rest = omega arith

place_size : (p : Place) (t : Token) (b : Bool) (k : Place → List Token) (n : ℕ) → ((next : Place) → length (k next) ≤ n) → length (place_token p t b k) ≤ suc n
place_size p begin_object b k n rest = allowed_size (may_begin p) begin_object k fresh n (rest fresh)
place_size p end_object b k n rest = allowed_size (may_close p) end_object k after_value n (rest after_value)
place_size p begin_array b k n rest = allowed_size (may_begin p) begin_array k fresh n (rest fresh)
place_size p end_array b k n rest = allowed_size (may_close p) end_array k after_value n (rest after_value)
place_size p (key s) b k n rest = omega arith
place_size p (string s) true k n rest = allowed_size (may_begin p) (key s) k after_key n (rest after_key)
place_size p (string s) false k n rest = allowed_size (may_begin p) (string s) k after_value n (rest after_value)
place_size p (number s) b k n rest = allowed_size (may_begin p) (number s) k after_value n (rest after_value)
place_size p (boolean v) b k n rest = allowed_size (may_begin p) (boolean v) k after_value n (rest after_value)
place_size p null b k n rest = allowed_size (may_begin p) null k after_value n (rest after_value)
place_size p bad b k n rest = omega arith

-- a lexeme is at most one token, and the end may be a fault
punctuate_size : (p : Place) (ls : List Lexeme) → length (punctuate p ls) ≤ suc (length ls)
unfolding punctuate
punctuate_size fresh [] = omega arith
punctuate_size after_value [] = omega arith
punctuate_size after_comma [] = omega arith
punctuate_size after_key [] = omega arith
punctuate_size fresh (token t ∷ ls) = place_size fresh t (begins_colon ls) (λ next. punctuate next ls) (suc (length ls)) (λ next. punctuate_size next ls)
punctuate_size after_value (token t ∷ ls) = place_size after_value t (begins_colon ls) (λ next. punctuate next ls) (suc (length ls)) (λ next. punctuate_size next ls)
punctuate_size after_comma (token t ∷ ls) = place_size after_comma t (begins_colon ls) (λ next. punctuate next ls) (suc (length ls)) (λ next. punctuate_size next ls)
punctuate_size after_key (token t ∷ ls) = place_size after_key t (begins_colon ls) (λ next. punctuate next ls) (suc (length ls)) (λ next. punctuate_size next ls)
punctuate_size fresh (comma ∷ ls) = omega arith
punctuate_size after_value (comma ∷ ls) = let rest = punctuate_size after_comma ls in omega arith
punctuate_size after_comma (comma ∷ ls) = omega arith
punctuate_size after_key (comma ∷ ls) = omega arith
punctuate_size fresh (colon ∷ ls) = omega arith
punctuate_size after_value (colon ∷ ls) = omega arith
punctuate_size after_comma (colon ∷ ls) = omega arith
punctuate_size after_key (colon ∷ ls) = let rest = punctuate_size fresh ls in omega arith

pub tokens_size : (text : List ℕ) → length (tokens text) ≤ suc (length text)
tokens_size text = let lexed = lex_size between text in let placed = punctuate_size fresh (lex between text) in omega arith
