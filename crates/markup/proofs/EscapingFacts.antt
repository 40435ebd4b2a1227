-- What `escaped` makes of the characters of a text, and that none of it is markup.
use Rattle.std.proofs.Common.{◌≡◌, ℕ, ◌≤◌, ◌<◌, ◌+◌, ◌/◌, true, List, [], ◌∷◌, ◌++◌, Option, Some, None, refl, sym, ap, ◌∙◌, inl, inr, ltb, arith, append-nil, append_assoc, unwrap_or}
use Rattle.std.specs.Prelude.{◌==◌, ◌&&◌, All, codes, is_none, length}
use Rattle.std.proofs.lemmas.Bool.{cond-true, cond-false, cond_both, cases_Bool}
use Rattle.std.proofs.lemmas.Bool.Decides.{nat_tests}
use Rattle.std.proofs.lemmas.List.{nil_from_length}
use Rattle.std.proofs.lemmas.Grind.{flat_map-append}
use Rattle.std.proofs.lemmas.List.Elements.{All-nil, All-cons, All-head, All-tail}
use Rattle.std.proofs.lemmas.Str.{encode_ascii}
use lib.Utf8.{next, encode}
use Rattle.markup.specs.Escaping.{escaped, escaped_byte, is_control, is_inert, is_passed, reference_of}

pub escaped-nil : escaped [] ≡ []
unfolding escaped
escaped-nil = refl

pub escaped-cons : (b : ℕ) (bs : List ℕ) → escaped (b ∷ bs) ≡ escaped_byte b ++ escaped bs
unfolding escaped
escaped-cons b bs = refl

pub escaped-append : (xs ys : List ℕ) → escaped (xs ++ ys) ≡ escaped xs ++ escaped ys
unfolding escaped
escaped-append xs ys = flat_map-append escaped_byte xs ys

-- the bytes of a character that isn't of ASCII are none of ASCII
abbrev High : ℕ → Type 0
High b = 128 ≤ b

one : (a : ℕ) → High a → All High (a ∷ [])
one a high = All-cons High a [] high (All-nil High)

encode_high : (c : ℕ) → 128 ≤ c → All High (encode c)
unfolding encode
encode_high c high =
    let follows : (n : ℕ) → High (next n) = λ n. omega arith in
    cond_both (ltb c 128) _ _ (All High) (λ ascii. one c high)
    (λ _. cond_both (ltb c 2048) _ _ (All High)
    (λ two. All-cons High (192 + c / 64) (next c ∷ []) (omega arith) (one (next c) (follows c)))
    (λ _. cond_both (ltb c 65536) _ _ (All High)
    (λ three. All-cons High (224 + c / 4096) (next (c / 64) ∷ next c ∷ []) (omega arith)
    (All-cons High (next (c / 64)) (next c ∷ []) (follows (c / 64)) (one (next c) (follows c))))
    (λ _. All-cons High (240 + c / 262144) (next (c / 4096) ∷ next (c / 64) ∷ next c ∷ []) (omega arith)
    (All-cons High (next (c / 4096)) (next (c / 64) ∷ next c ∷ []) (follows (c / 4096))
    (All-cons High (next (c / 64)) (next c ∷ []) (follows (c / 64)) (one (next c) (follows c)))))))

high_plain : (b : ℕ) → 128 ≤ b → reference_of b ≡ None
high_plain b high = grind (arith, nat_tests)

escaped_high : (bs : List ℕ) → All High bs → escaped bs ≡ bs
escaped_high [] high = escaped-nil
escaped_high (b ∷ bs) high =
    escaped-cons b bs
    ∙ ap (λ o. unwrap_or o (b ∷ []) ++ escaped bs) (high_plain b (All-head High b bs high))
    ∙ ap (λ l. b ∷ l) (escaped_high bs (All-tail High b bs high))

escaped_one : (b : ℕ) (o : Option (List ℕ)) → reference_of b ≡ o → escaped (b ∷ []) ≡ unwrap_or o (b ∷ [])
escaped_one b o is = escaped-cons b [] ∙ ap (λ l. escaped_byte b ++ l) escaped-nil ∙ append-nil _ ∙ ap (λ p. unwrap_or p (b ∷ [])) is

-- a character as the code writes it
pub escaped_char : (c : ℕ) (o : Option (List ℕ)) → reference_of c ≡ o → escaped (encode c) ≡ unwrap_or o (encode c)
escaped_char c o is =
    elim (cases_Bool (ltb c 128)) [
      | inl ascii ↦
          let small : c < 128 = grind (arith, nat_tests) in
          let alone = encode_ascii c small in
          ap escaped alone ∙ escaped_one c o is ∙ ap (unwrap_or o) (sym alone)
      | inr other ↦
          let high : 128 ≤ c = grind (arith, nat_tests) in
          escaped_high (encode c) (encode_high c high) ∙ ap (λ p. unwrap_or p (encode c)) (sym (high_plain c high) ∙ is)
    ]

pub escaped_empty : (bs : List ℕ) → length bs ≡ 0 → escaped bs ≡ []
escaped_empty bs none = ap escaped (nil_from_length bs none) ∙ escaped-nil

-- one character of a text more is written
pub escaped_step : (done put old rest whole : List ℕ) (c : ℕ) → done ++ escaped old ≡ whole → old ≡ encode c ++ rest → put ≡ escaped (encode c)
    → (done ++ put) ++ escaped rest ≡ whole
escaped_step done put old rest whole c held parts is =
    append_assoc done put (escaped rest)
    ∙ ap (λ l. done ++ (l ++ escaped rest)) is
    ∙ ap (λ l. done ++ l) (sym (escaped-append (encode c) rest))
    ∙ ap (λ l. done ++ escaped l) (sym parts)
    ∙ held

-- a byte is one of the six kinds that have a reference, or it has none
by_reference : (b : ℕ) (P : Option (List ℕ) → Type 0) → P (Some (codes "&amp;")) → P (Some (codes "&lt;")) → P (Some (codes "&gt;")) → P (Some (codes "&quot;"))
    → P (Some (codes "&#39;")) → P (Some (codes "&#xFFFD;")) → (reference_of b ≡ None → P None) → P (reference_of b)
by_reference b P amp lt gt quote apostrophe lost none =
    cond_both (b == 38) _ _ P (λ _. amp)
    (λ n1. cond_both (b == 60) _ _ P (λ _. lt)
    (λ n2. cond_both (b == 62) _ _ P (λ _. gt)
    (λ n3. cond_both (b == 34) _ _ P (λ _. quote)
    (λ n4. cond_both (b == 39) _ _ P (λ _. apostrophe)
    (λ n5. cond_both (is_control b) _ _ P (λ _. lost)
    (λ n6. none (cond-false (b == 38) _ _ n1 ∙ cond-false (b == 60) _ _ n2 ∙ cond-false (b == 62) _ _ n3 ∙ cond-false (b == 34) _ _ n4
    ∙ cond-false (b == 39) _ _ n5 ∙ cond-false (is_control b) _ _ n6)))))))

-- a byte without a reference is no `&`
passed_plain : (b : ℕ) (rest : List ℕ) → reference_of b ≡ None → is_passed b rest ≡ true
passed_plain b rest plain =
    elim (cases_Bool (b == 38)) [
      | inl and ↦
          let some : reference_of b ≡ Some (codes "&amp;") = cond-true (b == 38) _ _ and in
          absurd (let wrong : Some (codes "&amp;") ≡ None = sym some ∙ plain in cc wrong)
      | inr other ↦ cond-false (b == 38) _ _ other ∙ ap is_none plain
    ]

inert_plain : (b : ℕ) (rest : List ℕ) → reference_of b ≡ None → is_inert (b ∷ rest) ≡ is_inert rest
inert_plain b rest plain = ap (λ t. t && is_inert rest) (passed_plain b rest plain)

-- each byte of the input is inert as it is written, in front of what is
inert_byte : (b : ℕ) (rest : List ℕ) → is_inert (escaped_byte b ++ rest) ≡ is_inert rest
inert_byte b rest =
    by_reference b (λ o. is_inert (unwrap_or o (b ∷ []) ++ rest) ≡ is_inert rest) refl refl refl refl refl refl (λ none. inert_plain b rest none)

pub inert-escaped : (text : List ℕ) → is_inert (escaped text) ≡ true
inert-escaped [] = ap is_inert escaped-nil
inert-escaped (b ∷ bs) = ap is_inert (escaped-cons b bs) ∙ inert_byte b (escaped bs) ∙ inert-escaped bs
