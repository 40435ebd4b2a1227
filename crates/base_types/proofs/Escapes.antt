-- Reference-tokens, and the texts of pointers.
use Rattle.std.proofs.Common.{◌≡◌, ◌≢◌, ℕ, suc, ◌+◌, ◌<◌, ◌≤◌, ◌==◌, Bool, true, false, cond, List, [], ◌∷◌, ◌++◌, length, get_or, Option, Some, None, Result, Ok, Err, IfOk, option_map, option_and_then, refl, sym, ap, ◌∙◌, ◌⊎◌, inl, inr, append_assoc, append-nil, length-append, arith}
use Rattle.std.proofs.lemmas.Bool.{eqb-true, ne_eqb, true≢false, cases_lt}
use Rattle.std.proofs.lemmas.Str.{encode_ascii, inside_one, char_from_byte, length-encode, len_utf8_bounds}
use Rattle.std.proofs.lemmas.List.{get_or_append_left}
use Rattle.std.proofs.lemmas.List.Elements.{All-from_get_or, All-nil, All-cons, All-head, All-tail, All-append}
use Rattle.std.proofs.lemmas.List.Splits.{slice_split_none, slice_split_at}
use Rattle.std.specs.List.{All, AllByRecursion, slice_split, onto_first, flat_map}
use Rattle.std.specs.Option.{MatchOption}
use Rattle.std.proofs.Math.Utf8.{encode}
use Rattle.std.specs.Prelude.{if◌then◌else◌}
use Rattle.base_types.specs.Pointers.{slash, tilde, is_slash, escape_of, unescaped, after_tilde, all_unescaped, pointer_of, escaped, pointer_text}

option_map-id : {A : Type 0} (o : Option A) → o ≡ option_map (λ x. x) o
option_map-id None = refl
option_map-id (Some x) = refl

option_map-map : {A B C : Type 0} (f : A → B) (g : B → C) (o : Option A) → option_map g (option_map f o) ≡ option_map (λ x. g (f x)) o
option_map-map f g None = refl
option_map-map f g (Some x) = refl

-- bytes that aren't `~` stand for themselves
pub unescaped-append : (xs bs : List ℕ) → ((k : ℕ) → k < length xs → get_or xs k 0 ≢ tilde) → unescaped (xs ++ bs) ≡ option_map (λ rest. xs ++ rest) (unescaped bs)
unescaped-append [] bs plain = option_map-id (unescaped bs)
unescaped-append (x ∷ xs) bs plain =
    let here : x ≢ tilde = plain 0 (omega arith) in
    let rest = unescaped-append xs bs (λ k lt. plain (suc k) (omega arith)) in
    rw (ne_eqb x tilde here) (ap (option_map (λ r. x ∷ r)) rest ∙ option_map-map (λ r. xs ++ r) (λ r. x ∷ r) (unescaped bs))

no_tilde_in : (c : ℕ) → c ≢ tilde → (k : ℕ) → k < length (encode c) → get_or (encode c) k 0 ≢ tilde
no_tilde_in c other k lt is =
    let low : get_or (encode c ++ []) k 0 ≡ tilde = get_or_append_left (encode c) [] 0 k lt ∙ is in
    let small : get_or (encode c ++ []) k 0 < 128 = omega (arith, low) in
    other (inside_one c [] (encode c ++ []) k refl lt small ∙ low)

-- a character that isn't `~` stands for itself
pub unescaped_char : (c : ℕ) (before after : List ℕ) → before ≡ encode c ++ after → c ≢ tilde → unescaped before ≡ option_map (λ rest. encode c ++ rest) (unescaped after)
unescaped_char c before after e other = ap unescaped e ∙ unescaped-append (encode c) after (no_tilde_in c other)

pub shorter_char : (c : ℕ) (before after : List ℕ) → before ≡ encode c ++ after → length after < length before
shorter_char c before after e =
    let sum : length before ≡ length (encode c) + length after = ap length e ∙ length-append (encode c) after in
    let some = len_utf8_bounds c in
    let bytes = length-encode c in
    omega (arith, some.0, bytes, sum)

-- a `~` with the next character
pub unescaped_tilde : (S : Type 0) (before mid after : List ℕ) (next : Option ℕ) → before ≡ encode tilde ++ mid → MatchOption next ((length mid ≡ 0) × S) (λ d. mid ≡ encode d ++ after)
    → unescaped before ≡ option_and_then (λ c. option_map (λ rest. c ∷ rest) (unescaped after)) (option_and_then escape_of next)
unescaped_tilde S before mid after next e step = ap unescaped (e ∙ ap (λ l. l ++ mid) (encode_ascii tilde (omega arith))) ∙ go next mid step
  where
    apart : (d : ℕ) → 128 ≤ d → escape_of d ≡ None
    apart d high = rw (ne_eqb d 48 (λ is. absurd (omega (arith, is))), ne_eqb d 49 (λ is. absurd (omega (arith, is)))) refl

    first_high : (d b : ℕ) (bs : List ℕ) → b ∷ bs ≡ encode d ++ after → 128 ≤ d → (b < 128) ⊎ (128 ≤ b) → 128 ≤ b
    first_high d b bs step high (inr le) = le
    first_high d b bs step high (inl lt) = let same : d ≡ b = char_from_byte (b ∷ bs) after d step lt (omega arith) in absurd (omega (arith, same))

    at : (d : ℕ) (mid : List ℕ) → mid ≡ encode d ++ after → (d < 128) ⊎ (128 ≤ d) → after_tilde mid ≡ option_and_then (λ c. option_map (λ rest. c ∷ rest) (unescaped after)) (escape_of d)
    at d mid step (inl low) = ap after_tilde (step ∙ ap (λ l. l ++ after) (encode_ascii d low))
    at d [] step (inr high) = rw (apart d high) refl
    at d (b ∷ bs) step (inr high) = rw (apart d high, apart b (first_high d b bs step high (cases_lt b 128))) refl

    go : (next : Option ℕ) (mid : List ℕ) → MatchOption next ((length mid ≡ 0) × S) (λ d. mid ≡ encode d ++ after) → after_tilde mid ≡ option_and_then (λ c. option_map (λ rest. c ∷ rest) (unescaped after)) (option_and_then escape_of next)
    go None [] step = refl
    go None (b ∷ bs) step = let none = step.0 in absurd (omega (arith, none))
    go (Some d) mid step = at d mid step (cases_lt d 128)

-- a reference-token behind which a `/` stands, and the last one
plain_slash : (xs : List ℕ) → ((k : ℕ) → k < length xs → get_or xs k 0 ≢ slash) → All (λ x. is_slash x ≡ false) xs
plain_slash xs plain = All-from_get_or (λ x. is_slash x ≡ false) xs 0 (λ k lt. ne_eqb (get_or xs k 0) slash (plain k lt))

pub tokens_split : (bs xs ys : List ℕ) → bs ≡ xs ++ slash ∷ ys → ((k : ℕ) → k < length xs → get_or xs k 0 ≢ slash) → slice_split is_slash bs ≡ xs ∷ slice_split is_slash ys
tokens_split bs xs ys e plain = ap (slice_split is_slash) e ∙ slice_split_at is_slash xs slash ys (plain_slash xs plain) refl

pub tokens_end : (bs : List ℕ) → ((k : ℕ) → k < length bs → get_or bs k 0 ≢ slash) → slice_split is_slash bs ≡ bs ∷ []
tokens_end bs plain = slice_split_none is_slash bs (plain_slash bs plain)

pub tokens_more : (done : List (List ℕ)) (whole : Option (List (List ℕ))) (parts more : List (List ℕ)) (part t : List ℕ) → whole ≡ option_map (λ rest. done ++ rest) (all_unescaped parts)
    → parts ≡ part ∷ more → unescaped part ≡ Some t → whole ≡ option_map (λ rest. (done ++ t ∷ []) ++ rest) (all_unescaped more)
tokens_more done whole parts more part t before split here =
    before ∙ ap (λ ps. option_map (λ rest. done ++ rest) (all_unescaped ps)) split
    ∙ ap (λ o. option_map (λ rest. done ++ rest) (option_and_then (λ token. option_map (λ rest. token ∷ rest) (all_unescaped more)) o)) here ∙ go (all_unescaped more)
  where
    go : (o : Option (List (List ℕ))) → option_map (λ rest. done ++ rest) (option_map (λ rest. t ∷ rest) o) ≡ option_map (λ rest. (done ++ t ∷ []) ++ rest) o
    go None = refl
    go (Some rest) = ap Some (sym (append_assoc done (t ∷ []) rest))

pub tokens_bad : (done : List (List ℕ)) (whole : Option (List (List ℕ))) (parts more : List (List ℕ)) (part : List ℕ) → whole ≡ option_map (λ rest. done ++ rest) (all_unescaped parts)
    → parts ≡ part ∷ more → unescaped part ≡ None → whole ≡ None
tokens_bad done whole parts more part before split here =
    before ∙ ap (λ ps. option_map (λ rest. done ++ rest) (all_unescaped ps)) split
    ∙ ap (λ o. option_map (λ rest. done ++ rest) (option_and_then (λ token. option_map (λ rest. token ∷ rest) (all_unescaped more)) o)) here

-- the laws: a pointer's text is read as that pointer, and what was read is written so
escaped_slash : (t : List ℕ) → All (λ x. is_slash x ≡ false) (escaped t)
escaped_slash [] = All-nil (λ x. is_slash x ≡ false)
escaped_slash (b ∷ t) = All-append (λ x. is_slash x ≡ false) _ (escaped t) (go (b == tilde) (b == slash) refl) (escaped_slash t)
  where
    two : (c d : ℕ) → is_slash c ≡ false → is_slash d ≡ false → All (λ x. is_slash x ≡ false) (c ∷ d ∷ [])
    two c d p q = All-cons (λ x. is_slash x ≡ false) c (d ∷ []) p (All-cons (λ x. is_slash x ≡ false) d [] q (All-nil (λ x. is_slash x ≡ false)))

    go : (u v : Bool) → (b == slash) ≡ v → All (λ x. is_slash x ≡ false) (if u then tilde ∷ 48 ∷ [] else (if v then tilde ∷ 49 ∷ [] else b ∷ []))
    go true v is = two tilde 48 refl refl
    go false true is = two tilde 49 refl refl
    go false false is = All-cons (λ x. is_slash x ≡ false) b [] is (All-nil (λ x. is_slash x ≡ false))

unescaped-escaped : (t : List ℕ) → unescaped (escaped t) ≡ Some t
unescaped-escaped [] = refl
unescaped-escaped (b ∷ t) = go (b == tilde) refl (b == slash) refl (unescaped-escaped t)
  where
    go : (u : Bool) → (b == tilde) ≡ u → (v : Bool) → (b == slash) ≡ v → unescaped (escaped t) ≡ Some t
        → unescaped ((if u then tilde ∷ 48 ∷ [] else (if v then tilde ∷ 49 ∷ [] else b ∷ [])) ++ escaped t) ≡ Some (b ∷ t)
    go true is v other rest = rw rest (ap (λ c. Some (c ∷ t)) (sym (eqb-true b tilde is)))
    go false is true other rest = rw rest (ap (λ c. Some (c ∷ t)) (sym (eqb-true b slash other)))
    go false is false other rest = rw (is, rest) refl

tokens_written : (t : List ℕ) (ts : List (List ℕ)) → all_unescaped (slice_split is_slash (escaped t ++ pointer_text ts)) ≡ Some (t ∷ ts)
tokens_written t [] = rw (append-nil, slice_split_none is_slash (escaped t) (escaped_slash t), unescaped-escaped t) refl
tokens_written t (u ∷ us) = rw (slice_split_at is_slash (escaped t) slash (escaped u ++ pointer_text us) (escaped_slash t) refl, unescaped-escaped t, tokens_written u us) refl

pub pointer_of-pointer_text : (ts : List (List ℕ)) → pointer_of (pointer_text ts) ≡ Some ts
pointer_of-pointer_text [] = refl
pointer_of-pointer_text (t ∷ ts) = tokens_written t ts

at_tilde : (b c : ℕ) (cs t : List ℕ) → b ≡ tilde → after_tilde (c ∷ cs) ≡ Some t → ((r : List ℕ) → unescaped cs ≡ Some r → escaped r ≡ cs) → escaped t ≡ b ∷ c ∷ cs
at_tilde b c cs t is e rest = go (c == 48) refl (c == 49) refl (unescaped cs) refl e
  where
    go : (u : Bool) → (c == 48) ≡ u → (v : Bool) → (c == 49) ≡ v → (o : Option (List ℕ)) → unescaped cs ≡ o
        → option_and_then (λ d. option_map (λ r. d ∷ r) o) (if u then Some tilde else (if v then Some slash else None)) ≡ Some t → escaped t ≡ b ∷ c ∷ cs
    go true zero_is v one_is None o_is made = absurd (cc)
    go true zero_is v one_is (Some r) o_is made =
        let same : t ≡ tilde ∷ r = cc in
        let digit : c ≡ 48 = eqb-true c 48 zero_is in
        rw (same, rest r o_is, is, digit) refl
    go false zero_is true one_is None o_is made = absurd (cc)
    go false zero_is true one_is (Some r) o_is made =
        let same : t ≡ slash ∷ r = cc in
        let digit : c ≡ 49 = eqb-true c 49 one_is in
        rw (same, rest r o_is, is, digit) refl
    go false zero_is false one_is o o_is made = absurd (cc)

at_plain : (b : ℕ) (bs t : List ℕ) → (b == tilde) ≡ false → is_slash b ≡ false → option_map (λ r. b ∷ r) (unescaped bs) ≡ Some t → ((r : List ℕ) → unescaped bs ≡ Some r → escaped r ≡ bs) → escaped t ≡ b ∷ bs
at_plain b bs t other plain e rest = go (unescaped bs) refl e
  where
    go : (o : Option (List ℕ)) → unescaped bs ≡ o → option_map (λ r. b ∷ r) o ≡ Some t → escaped t ≡ b ∷ bs
    go None o_is made = absurd (cc)
    go (Some r) o_is made =
        let same : t ≡ b ∷ r = cc in
        rw (same, other, plain, rest r o_is) refl

escaped-unescaped : (bs t : List ℕ) → All (λ x. is_slash x ≡ false) bs → unescaped bs ≡ Some t → escaped t ≡ bs
escaped-unescaped [] t plain e = let same : t ≡ [] = cc in ap escaped same
escaped-unescaped (b ∷ []) t plain e = go (b == tilde) refl e
  where
    go : (u : Bool) → (b == tilde) ≡ u → (if u then after_tilde [] else option_map (λ rest. b ∷ rest) (unescaped [])) ≡ Some t → escaped t ≡ b ∷ []
    go true is made = absurd (cc)
    go false is made = at_plain b [] t is (All-head (λ x. is_slash x ≡ false) b [] plain) made (λ r o_is. let same : r ≡ [] = cc in ap escaped same)
escaped-unescaped (b ∷ c ∷ cs) t plain e =
    let later = All-tail (λ x. is_slash x ≡ false) b (c ∷ cs) plain in
    go (b == tilde) refl e (λ r o_is. escaped-unescaped (c ∷ cs) r later o_is) (λ r o_is. escaped-unescaped cs r (All-tail (λ x. is_slash x ≡ false) c cs later) o_is)
  where
    go : (u : Bool) → (b == tilde) ≡ u → (if u then after_tilde (c ∷ cs) else option_map (λ rest. b ∷ rest) (unescaped (c ∷ cs))) ≡ Some t
        → ((r : List ℕ) → unescaped (c ∷ cs) ≡ Some r → escaped r ≡ c ∷ cs) → ((r : List ℕ) → unescaped cs ≡ Some r → escaped r ≡ cs) → escaped t ≡ b ∷ c ∷ cs
    go true is made next after = at_tilde b c cs t (eqb-true b tilde is) made after
    go false is made next after = at_plain b (c ∷ cs) t is (All-head (λ x. is_slash x ≡ false) b (c ∷ cs) plain) made next

parts_written : (parts ts : List (List ℕ)) → AllByRecursion (All (λ x. is_slash x ≡ false)) parts → all_unescaped parts ≡ Some ts → pointer_text ts ≡ flat_map (λ part. slash ∷ part) parts
parts_written [] ts plain e = let same : ts ≡ [] = cc in ap pointer_text same
parts_written (part ∷ parts) ts plain e = go (unescaped part) refl (all_unescaped parts) refl e (λ rs o_is. parts_written parts rs plain.1 o_is)
  where
    go : (first : Option (List ℕ)) → unescaped part ≡ first → (rest : Option (List (List ℕ))) → all_unescaped parts ≡ rest
        → option_and_then (λ token. option_map (λ more. token ∷ more) rest) first ≡ Some ts
        → ((rs : List (List ℕ)) → all_unescaped parts ≡ Some rs → pointer_text rs ≡ flat_map (λ part. slash ∷ part) parts)
        → pointer_text ts ≡ flat_map (λ part. slash ∷ part) (part ∷ parts)
    go None first_is rest rest_is made later = absurd (cc)
    go (Some t) first_is None rest_is made later = absurd (cc)
    go (Some t) first_is (Some rs) rest_is made later =
        let same : ts ≡ t ∷ rs = cc in
        rw (same, escaped-unescaped part t plain.0 first_is, later rs rest_is) refl

split_joined : (bs : List ℕ) → flat_map (λ part. slash ∷ part) (slice_split is_slash bs) ≡ slash ∷ bs
split_joined [] = refl
split_joined (b ∷ bs) = go (is_slash b) refl (split_joined bs)
  where
    onto : (parts : List (List ℕ)) → flat_map (λ part. slash ∷ part) parts ≡ slash ∷ bs → flat_map (λ part. slash ∷ part) (onto_first b parts) ≡ slash ∷ b ∷ bs
    onto [] e = absurd (cc)
    onto (part ∷ parts) e = let rest : part ++ flat_map (λ part. slash ∷ part) parts ≡ bs = cc in ap (λ l. slash ∷ b ∷ l) rest

    go : (v : Bool) → is_slash b ≡ v → flat_map (λ part. slash ∷ part) (slice_split is_slash bs) ≡ slash ∷ bs
        → flat_map (λ part. slash ∷ part) (cond v ([] ∷ slice_split is_slash bs) (onto_first b (slice_split is_slash bs))) ≡ slash ∷ b ∷ bs
    go true is rest = ap (λ l. slash ∷ l) (rest ∙ ap (λ c. c ∷ bs) (sym (eqb-true b slash is)))
    go false is rest = onto (slice_split is_slash bs) rest

split_plain : (bs : List ℕ) → AllByRecursion (All (λ x. is_slash x ≡ false)) (slice_split is_slash bs)
split_plain [] = (All-nil (λ x. is_slash x ≡ false), tt)
split_plain (b ∷ bs) = go (is_slash b) refl (split_plain bs)
  where
    onto : (parts : List (List ℕ)) → is_slash b ≡ false → AllByRecursion (All (λ x. is_slash x ≡ false)) parts → AllByRecursion (All (λ x. is_slash x ≡ false)) (onto_first b parts)
    onto [] is h = (All-cons (λ x. is_slash x ≡ false) b [] is (All-nil (λ x. is_slash x ≡ false)), tt)
    onto (part ∷ parts) is h = (All-cons (λ x. is_slash x ≡ false) b part is h.0, h.1)

    go : (v : Bool) → is_slash b ≡ v → AllByRecursion (All (λ x. is_slash x ≡ false)) (slice_split is_slash bs)
        → AllByRecursion (All (λ x. is_slash x ≡ false)) (cond v ([] ∷ slice_split is_slash bs) (onto_first b (slice_split is_slash bs)))
    go true is rest = (All-nil (λ x. is_slash x ≡ false), rest)
    go false is rest = onto (slice_split is_slash bs) is rest

pub pointer_text-pointer_of : (text : List ℕ) (ts : List (List ℕ)) → pointer_of text ≡ Some ts → pointer_text ts ≡ text
pointer_text-pointer_of [] ts e = let same : ts ≡ [] = cc in ap pointer_text same
pointer_text-pointer_of (b ∷ bs) ts e = go (b == slash) refl e
  where
    go : (v : Bool) → (b == slash) ≡ v → (if v then all_unescaped (slice_split is_slash bs) else None) ≡ Some ts → pointer_text ts ≡ b ∷ bs
    go false is made = absurd (cc)
    go true is made = parts_written (slice_split is_slash bs) ts (split_plain bs) made ∙ split_joined bs ∙ ap (λ c. c ∷ bs) (sym (eqb-true b slash is))

-- what isn't read is no pointer's text
pub unwritten : (text : List ℕ) → pointer_of text ≡ None → (ts : List (List ℕ)) → pointer_text ts ≡ text → ⊥
unwritten text none ts e = let both : Some ts ≡ None = sym (pointer_of-pointer_text ts) ∙ ap pointer_of e ∙ none in cc

pub no_slash_first : (text : List ℕ) → 0 < length text → ((rest : List ℕ) → text ≢ slash ∷ rest) → pointer_of text ≡ None
no_slash_first [] some other = absurd (omega arith)
no_slash_first (b ∷ bs) some other =
    let unlike = λ (same : b ≡ slash). other bs (ap (λ c. c ∷ bs) same) in
    rw (ne_eqb b slash unlike) refl

pub read_texts : {E : Type 0} (text : List ℕ) (r : Result (List (List ℕ)) E) → IfOk r (λ ts. pointer_of text ≡ Some ts) → IfOk r (λ ts. pointer_text ts ≡ text)
read_texts text (Ok ts) h = pointer_text-pointer_of text ts h
read_texts text (Err e) h = tt

pub some_text : (text : List ℕ) → (length text == 0) ≡ false → 0 < length text
some_text [] e = absurd (true≢false e)
some_text (b ∷ bs) e = omega arith
