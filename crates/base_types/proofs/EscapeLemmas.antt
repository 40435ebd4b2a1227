-- What `escaped` keeps: which bytes it writes, that it is undone, and that it is percent-encoding.
use Rattle.std.proofs.Common.{◌≡◌, ◌≢◌, ℕ, ◌+◌, ◌/◌, ◌%◌, ◌<◌, true, false, not, ltb, List, [], ◌∷◌, ◌++◌, refl, sym, ap, ◌∙◌, inl, inr, arith}
use Rattle.std.specs.Prelude.{All, IsUtf8}
use Rattle.std.specs.Fmt.{digit_glyph}
use Rattle.std.proofs.lemmas.Bool.{cond-true, cond-false, cond_both, agree_below, agree_below_at, and_parts, cases_Bool}
use Rattle.std.proofs.lemmas.Bool.Decides.{nat_tests}
use Rattle.std.proofs.lemmas.List.Elements.{All-nil, All-cons, All-append, All-head, All-tail}
use lib.Utf8.{next, encode, encodes, scalar, scalars, scalar_cases}
use Rattle.percent_encoding.specs.AsciiSet.{should_percent_encode}
use Rattle.percent_encoding.specs.Percent.{percent_encode, percent_decode, percent_encode_byte}
use Rattle.percent_encoding.proofs.PercentLemmas.{IsByte, percent_encode_escaped, percent_encode_kept, percent_encode-nil, round_trip}
use Rattle.base_types.specs.declared.foundation.escaping.TheConstants.{ESCAPED}
use Rattle.base_types.specs.Escapes.{is_plain, escaped_byte, escaped}
use Rattle.base_types.specs.Keys.{HasNoSlash}

pub escaped-nil : escaped [] ≡ []
unfolding escaped
escaped-nil = refl

pub escaped-cons : (b : ℕ) (bs : List ℕ) → escaped (b ∷ bs) ≡ escaped_byte b ++ escaped bs
unfolding escaped
escaped-cons b bs = refl

byte_plain : (b : ℕ) → is_plain b ≡ true → escaped_byte b ≡ b ∷ []
byte_plain b plain = cond-true (is_plain b) (b ∷ []) _ plain

byte_other : (b : ℕ) → is_plain b ≡ false → escaped_byte b ≡ 37 ∷ digit_glyph true (b / 16) ∷ digit_glyph true (b % 16) ∷ []
byte_other b other = cond-false (is_plain b) (b ∷ []) _ other

-- the bytes of a text are below 256
scalar_below : (c : ℕ) → scalar c ≡ true → c < 1114112
scalar_below c is = grind (arith, scalar_cases c is)

one : (a : ℕ) → IsByte a → All IsByte (a ∷ [])
one a small = All-cons IsByte a [] small (All-nil IsByte)

encode_bytes : (c : ℕ) → scalar c ≡ true → All IsByte (encode c)
unfolding encode
encode_bytes c is =
    let below : c < 1114112 = scalar_below c is in
    let follows : (n : ℕ) → IsByte (next n) = λ n. omega arith in
    cond_both (ltb c 128) _ _ (All IsByte) (λ ascii. one c (grind (arith, nat_tests)))
    (λ _. cond_both (ltb c 2048) _ _ (All IsByte)
    (λ two. All-cons IsByte (192 + c / 64) (next c ∷ []) (grind (arith, nat_tests)) (one (next c) (follows c)))
    (λ _. cond_both (ltb c 65536) _ _ (All IsByte)
    (λ three. All-cons IsByte (224 + c / 4096) (next (c / 64) ∷ next c ∷ []) (grind (arith, nat_tests))
    (All-cons IsByte (next (c / 64)) (next c ∷ []) (follows (c / 64)) (one (next c) (follows c))))
    (λ _. All-cons IsByte (240 + c / 262144) (next (c / 4096) ∷ next (c / 64) ∷ next c ∷ []) (omega arith)
    (All-cons IsByte (next (c / 4096)) (next (c / 64) ∷ next c ∷ []) (follows (c / 4096))
    (All-cons IsByte (next (c / 64)) (next c ∷ []) (follows (c / 64)) (one (next c) (follows c)))))))

encodes_bytes : (cs : List ℕ) → scalars cs ≡ true → All IsByte (encodes cs)
encodes_bytes [] is = All-nil IsByte
encodes_bytes (c ∷ cs) is =
    let both = and_parts (scalar c) (scalars cs) is in
    All-append IsByte (encode c) (encodes cs) (encode_bytes c both.0) (encodes_bytes cs both.1)

pub text_bytes : (bs : List ℕ) → IsUtf8 bs → All IsByte bs
text_bytes bs utf8 = rw (sym utf8.1.1) (encodes_bytes utf8.0 utf8.1.0)

-- the set of the code is the bytes that don't stand for themselves
plain_checked : agree_below (λ b. should_percent_encode ESCAPED b) (λ b. not (is_plain b)) 256 ≡ true
unfolding should_percent_encode
plain_checked = refl

escapes_rest : (b : ℕ) → b < 256 → should_percent_encode ESCAPED b ≡ not (is_plain b)
escapes_rest b small = agree_below_at (λ b. should_percent_encode ESCAPED b) (λ b. not (is_plain b)) 256 b plain_checked small

-- one byte of the input, as the code writes it
percent_encode-cons : (b : ℕ) (bs : List ℕ) → b < 256 → percent_encode ESCAPED bs ≡ escaped bs → percent_encode ESCAPED (b ∷ bs) ≡ escaped_byte b ++ escaped bs
unfolding percent_encode_byte
percent_encode-cons b bs small rest =
    elim (cases_Bool (is_plain b)) [
      | inl plain ↦
          let kept : should_percent_encode ESCAPED b ≡ false = escapes_rest b small ∙ ap not plain in
          percent_encode_kept ESCAPED b bs kept ∙ ap (λ l. b ∷ l) rest ∙ ap (λ l. l ++ escaped bs) (sym (byte_plain b plain))
      | inr other ↦
          let goes : should_percent_encode ESCAPED b ≡ true = escapes_rest b small ∙ ap not other in
          let high : b / 16 % 16 ≡ b / 16 = omega arith in
          percent_encode_escaped ESCAPED b bs goes
          ∙ ap (λ d. 37 ∷ digit_glyph true d ∷ digit_glyph true (b % 16) ∷ percent_encode ESCAPED bs) high
          ∙ ap (λ l. 37 ∷ digit_glyph true (b / 16) ∷ digit_glyph true (b % 16) ∷ l) rest
          ∙ ap (λ l. l ++ escaped bs) (sym (byte_other b other))
    ]

pub percent_encode-escaped : (bs : List ℕ) → All IsByte bs → percent_encode ESCAPED bs ≡ escaped bs
percent_encode-escaped [] small = percent_encode-nil ESCAPED ∙ sym escaped-nil
percent_encode-escaped (b ∷ bs) small =
    percent_encode-cons b bs (All-head IsByte b bs small) (percent_encode-escaped bs (All-tail IsByte b bs small)) ∙ sym (escaped-cons b bs)

pub percent_decode-escaped : (bs : List ℕ) → All IsByte bs → percent_decode (escaped bs) ≡ bs
percent_decode-escaped bs small = rw (sym (percent_encode-escaped bs small)) (round_trip ESCAPED bs refl small)

-- `/` isn't among the bytes that are written
abbrev Other : ℕ → Type 0
Other b = b ≢ 47

glyph_no_slash : (d : ℕ) → digit_glyph true d ≢ 47
glyph_no_slash d = grind (arith, nat_tests)

plain_no_slash : (b : ℕ) → is_plain b ≡ true → b ≢ 47
plain_no_slash b plain e = let wrong : is_plain 47 ≡ true = rw e at plain in cc

escaped_byte_no_slash : (b : ℕ) → HasNoSlash (escaped_byte b)
escaped_byte_no_slash b =
    elim (cases_Bool (is_plain b)) [
      | inl plain ↦ rw (byte_plain b plain) (All-cons Other b [] (plain_no_slash b plain) (All-nil Other))
      | inr other ↦
          let last : HasNoSlash (digit_glyph true (b % 16) ∷ []) = All-cons Other (digit_glyph true (b % 16)) [] (glyph_no_slash (b % 16)) (All-nil Other) in
          rw (byte_other b other)
          (All-cons Other 37 (digit_glyph true (b / 16) ∷ digit_glyph true (b % 16) ∷ []) (omega arith)
          (All-cons Other (digit_glyph true (b / 16)) (digit_glyph true (b % 16) ∷ []) (glyph_no_slash (b / 16)) last))
    ]

pub no_slash-escaped : (bs : List ℕ) → HasNoSlash (escaped bs)
no_slash-escaped [] = rw escaped-nil (All-nil Other)
no_slash-escaped (b ∷ bs) = rw escaped-cons (All-append Other (escaped_byte b) (escaped bs) (escaped_byte_no_slash b) (no_slash-escaped bs))

-- one text is written as each word
glyph_injective : (c d : ℕ) → digit_glyph true c ≡ digit_glyph true d → c ≡ d
glyph_injective c d same = grind (arith, nat_tests)

plain_no_percent : (b : ℕ) → is_plain b ≡ true → b ≢ 37
plain_no_percent b plain e = let wrong : is_plain 37 ≡ true = rw e at plain in cc

first_same : (x y : ℕ) (xs ys : List ℕ) → escaped_byte x ++ xs ≡ escaped_byte y ++ ys → (x ≡ y) × (xs ≡ ys)
first_same x y xs ys same =
    elim (cases_Bool (is_plain x)) [
      | inl px ↦ elim (cases_Bool (is_plain y)) [
        | inl py ↦ let e : x ∷ xs ≡ y ∷ ys = rw (byte_plain x px, byte_plain y py) at same in (cc, cc)
        | inr oy ↦ let e : x ∷ xs ≡ 37 ∷ digit_glyph true (y / 16) ∷ digit_glyph true (y % 16) ∷ ys = rw (byte_plain x px, byte_other y oy) at same in
            absurd (plain_no_percent x px (cc))
      ]
      | inr ox ↦ elim (cases_Bool (is_plain y)) [
        | inl py ↦ let e : 37 ∷ digit_glyph true (x / 16) ∷ digit_glyph true (x % 16) ∷ xs ≡ y ∷ ys = rw (byte_other x ox, byte_plain y py) at same in
            absurd (plain_no_percent y py (cc))
        | inr oy ↦
            let e : 37 ∷ digit_glyph true (x / 16) ∷ digit_glyph true (x % 16) ∷ xs ≡ 37 ∷ digit_glyph true (y / 16) ∷ digit_glyph true (y % 16) ∷ ys
            = rw (byte_other x ox, byte_other y oy) at same in
            let high : x / 16 ≡ y / 16 = glyph_injective (x / 16) (y / 16) (cc) in
            let low : x % 16 ≡ y % 16 = glyph_injective (x % 16) (y % 16) (cc) in
            (omega arith, cc)
      ]
    ]

pub escaped_nonempty : (bs : List ℕ) → escaped bs ≡ [] → bs ≡ []
escaped_nonempty [] none = refl
escaped_nonempty (b ∷ bs) none =
    let e : escaped_byte b ++ escaped bs ≡ [] = sym (escaped-cons b bs) ∙ none in
    elim (cases_Bool (is_plain b)) [
      | inl plain ↦ let wrong : b ∷ escaped bs ≡ [] = rw (byte_plain b plain) at e in cc
      | inr other ↦ let wrong : 37 ∷ digit_glyph true (b / 16) ∷ digit_glyph true (b % 16) ∷ escaped bs ≡ [] = rw (byte_other b other) at e in cc
    ]

pub escaped_injective : (xs ys : List ℕ) → escaped xs ≡ escaped ys → xs ≡ ys
escaped_injective [] ys same = sym (escaped_nonempty ys (sym same ∙ escaped-nil))
escaped_injective (x ∷ xs) [] same = escaped_nonempty (x ∷ xs) (same ∙ escaped-nil)
escaped_injective (x ∷ xs) (y ∷ ys) same =
    let parts = first_same x y (escaped xs) (escaped ys) (sym (escaped-cons x xs) ∙ same ∙ escaped-cons y ys) in
    let rest : xs ≡ ys = escaped_injective xs ys parts.1 in
    cc
