-- The lines of bytes that are cut somewhere.
use Rattle.std.proofs.Common.{◌≡◌, ◌≢◌, ℕ, ◌+◌, ◌<◌, ◌≤◌, List, [], ◌∷◌, ◌++◌, length, nat_eq, if◌then◌else◌, Bool, true, false, refl, sym, ◌∙◌, ap, subst, arith}
use Rattle.line_reader.specs.Lines.{extend_first, extend_rest, last_line, lines_of, newline, rest_of, whole_lines}
use Rattle.line_reader.specs.Search.{HasNoNewline}
use Rattle.line_reader.proofs.LineFacts.{All-head, All-tail, not_newline}

-- a byte more at the front of the first line, or as the only one
abbrev extend_all : ℕ → List (List ℕ) → List (List ℕ)
extend_all byte [] = (byte ∷ []) ∷ []
extend_all byte (line ∷ lines) = (byte ∷ line) ∷ lines

extended : (byte : ℕ) (lines : List (List ℕ)) (rest : List ℕ) → extend_first byte lines ++ last_line (extend_rest byte lines rest) ≡ extend_all byte (lines ++ last_line rest)
extended byte [] [] = refl
extended byte [] (b ∷ rest) = refl
extended byte (line ∷ lines) rest = refl

lines_more : (byte : ℕ) (bytes : List ℕ) → nat_eq byte newline ≡ false → lines_of (byte ∷ bytes) ≡ extend_all byte (lines_of bytes)
lines_more byte bytes is =
    subst (λ test. (if test then [] ∷ whole_lines bytes else extend_first byte (whole_lines bytes)) ++ last_line (if test then rest_of bytes else extend_rest byte (whole_lines bytes) (rest_of bytes)) ≡ extend_all byte (lines_of bytes))
    (sym is) (extended byte (whole_lines bytes) (rest_of bytes))

behind : (byte : ℕ) (lines : List (List ℕ)) (rest more : List ℕ) → nat_eq byte newline ≡ false
    → extend_all byte (lines ++ lines_of (rest ++ more)) ≡ extend_first byte lines ++ lines_of (extend_rest byte lines rest ++ more)
behind byte [] rest more is = sym (lines_more byte (rest ++ more) is)
behind byte (line ∷ lines) rest more is = refl

-- the whole lines of the front come first, and then what it leaves open goes on
pub split_lines : (front more : List ℕ) → lines_of (front ++ more) ≡ whole_lines front ++ lines_of (rest_of front ++ more)
split_lines [] more = refl
split_lines (byte ∷ front) more = go (nat_eq byte newline) refl (split_lines front more)
  where
    go : (test : Bool) → nat_eq byte newline ≡ test → lines_of (front ++ more) ≡ whole_lines front ++ lines_of (rest_of front ++ more)
        → (if test then [] ∷ whole_lines (front ++ more) else extend_first byte (whole_lines (front ++ more))) ++ last_line (if test then rest_of (front ++ more) else extend_rest byte (whole_lines (front ++ more)) (rest_of (front ++ more)))
        ≡ (if test then [] ∷ whole_lines front else extend_first byte (whole_lines front)) ++ lines_of ((if test then rest_of front else extend_rest byte (whole_lines front) (rest_of front)) ++ more)
    go true is rest = ap (λ lines. [] ∷ lines) rest
    go false is rest =
        extended byte (whole_lines (front ++ more)) (rest_of (front ++ more)) ∙ ap (extend_all byte) rest ∙ behind byte (whole_lines front) (rest_of front) more is

-- these lines begin with one that is at least so long
pub record BeginsLong (lines : List (List ℕ)) (long : ℕ) : Type 0 where
  pub line : List ℕ
  pub others : List (List ℕ)
  pub is : lines ≡ line ∷ others
  pub least : long ≤ length line

one_byte : (byte : ℕ) (lines : List (List ℕ)) → BeginsLong (extend_all byte lines) 1
one_byte byte [] = record { line = byte ∷ []; others = []; is = refl; least = omega arith }
one_byte byte (line ∷ lines) = record { line = byte ∷ line; others = lines; is = refl; least = omega arith }

byte_more : (byte long : ℕ) (lines : List (List ℕ)) → BeginsLong lines long → BeginsLong (extend_all byte lines) (long + 1)
byte_more byte long lines begins = record {
  line = byte ∷ begins.line;
  others = begins.others;
  is = ap (extend_all byte) begins.is;
  least = (let least = begins.least in omega (arith, least));
}

-- a line that has begun is the front of the first
pub begun_long : (rest more : List ℕ) → HasNoNewline rest → 0 < length rest → BeginsLong (lines_of (rest ++ more)) (length rest)
begun_long [] more none some = absurd (omega (arith, some))
begun_long (byte ∷ []) more none some =
    let is : nat_eq byte newline ≡ false = not_newline byte (All-head (λ b. b ≢ newline) byte [] none) in
    subst (λ lines. BeginsLong lines 1) (sym (lines_more byte more is)) (one_byte byte (lines_of more))
begun_long (byte ∷ (b ∷ rest)) more none some =
    let is : nat_eq byte newline ≡ false = not_newline byte (All-head (λ b. b ≢ newline) byte (b ∷ rest) none) in
    let later = begun_long (b ∷ rest) more (All-tail (λ b. b ≢ newline) byte (b ∷ rest) none) (omega arith) in
    let long : length (b ∷ rest) + 1 ≡ length (byte ∷ (b ∷ rest)) = omega arith in
    subst (λ n. BeginsLong (lines_of (byte ∷ ((b ∷ rest) ++ more))) n) long
    (subst (λ lines. BeginsLong lines (length (b ∷ rest) + 1)) (sym (lines_more byte ((b ∷ rest) ++ more) is)) (byte_more byte (length (b ∷ rest)) (lines_of ((b ∷ rest) ++ more)) later))
